-- Every history that the ledger tells is serial.
use Rattle.std.proofs.Common.{◌≡◌, ℕ, zero, suc, ◌+◌, ◌<◌, ◌≤◌, Bool, true, false, cond, eqb, List, [], ◌∷◌, ◌++◌, map, Some, None, Option, sym, refl, ap, ◌∙◌, subst, inl, inr, ⊎_elim, arith}
use Rattle.std.specs.List.{range_with_len}
use mathlib.Core.Path.{fun_ext}
use Rattle.std.proofs.lemmas.List.{append-nil}
use Rattle.std.proofs.ByRecursion.{All-map}
use Rattle.std.proofs.lemmas.Bool.{eq-eqb, ne_eqb, cases_lt}
use Rattle.ledger.specs.declared.Kind.{Kind}
use Rattle.ledger.specs.declared.Kind.TheVariants.{Reader, Updater}
use Rattle.ledger.specs.Ledger.{Limits, Ledger, outlook, newest_value}
use Rattle.ledger.specs.Calls.{opened, seen, ended, reclaimed}
use Rattle.ledger.specs.History.{Made, Sight, sight_of, Deed, begins, ends, rests, after, IsTold, Operation, read_range, write_key, operations, operation_in, when, saw, seen_in, standing_in, at_tick, stands_at}
use Rattle.ledger.specs.Serial.{table, run, operations_of, run_reads}
use Rattle.ledger.specs.Orderly.{IsSound}
use Rattle.ledger.proofs.Actives.{found_without, never}
use Rattle.ledger.proofs.SoundActives.{sound_reclaimed, sound_made}
use Rattle.ledger.proofs.Presence.{value_same, newest_same, granule_same}
use Rattle.ledger.proofs.Deaths.{clear, bare_reclaimed}
use Rattle.ledger.proofs.Orders.{sound, reached, course_told}
use Rattle.ledger.proofs.Steps.{as_is, after_reclaim, Makes, resting, beginning, reading, setting, committing, ending, Course, course}
use Rattle.ledger.proofs.Stories.{Story, tab, operations_at, value_newest}
use Rattle.ledger.proofs.Serials.{TellsStory, inv_less, placing, inv_begin, did, inv_read, inv_write, stood, inv_commit}

story_same : (s z : Story) → ((h : ℕ) → s.operations h ≡ z.operations h) → ((h : ℕ) → s.saw h ≡ z.saw h) → ((t : ℕ) → s.stands t ≡ z.stands t) → s ≡ z
story_same s z a b c =
    let mk : (ℕ → List Operation) → (ℕ → List Sight) → (ℕ → Option ℕ) → Story = λ p q r. record { operations = p; saw = q; stands = r } in
    ap (λ p. mk p s.saw s.stands) (fun_ext a) ∙ ap (λ p. mk z.operations p s.stands) (fun_ext b) ∙ ap (λ p. mk z.operations z.saw p) (fun_ext c)

-- the story with one deed more
abbrev story_with : Story → Deed → Story
story_with s d = record { operations = λ h. s.operations h ++ operation_in h d; saw = λ h. s.saw h ++ seen_in h d; stands = λ t. at_tick t (standing_in d) (s.stands t) }

abbrev pub story : List Made → Story
story ms = record { operations = λ h. operations h ms; saw = λ h. saw h ms; stands = stands_at ms }

-- one thing more of one transaction
pub push_cond : {X : Type 0} (b : Bool) (xs : List X) (x : X) → xs ++ when b x ≡ cond b (xs ++ (x ∷ [])) xs
push_cond true xs x = refl
push_cond false xs x = append-nil xs

nil_cond : {X : Type 0} (b : Bool) (xs : List X) → xs ++ [] ≡ cond b (xs ++ []) xs
nil_cond true xs = refl
nil_cond false xs = append-nil xs

-- a deed that is no operation: only who stands where may change
quiet_deed : (s : Story) (d : Deed) → ((h : ℕ) → operation_in h d ≡ []) → ((h : ℕ) → seen_in h d ≡ []) → placing s (λ t. at_tick t (standing_in d) (s.stands t)) ≡ story_with s d
quiet_deed s d p q = story_same (placing s (λ t. at_tick t (standing_in d) (s.stands t))) (story_with s d)
    (λ h. sym (ap (λ xs. s.operations h ++ xs) (p h) ∙ append-nil (s.operations h)))
    (λ h. sym (ap (λ xs. s.saw h ++ xs) (q h) ∙ append-nil (s.saw h)))
    (λ t. refl)

inv_reclaimed : (s : Story) (l : Ledger) → TellsStory s l → TellsStory s (reclaimed l)
inv_reclaimed s l i =
    let b = sym (bare_reclaimed l) in
    let vs = (reclaimed l).versions in
    inv_less s l (reclaimed l) i (sound_reclaimed l i.fine) refl refl (λ h t f. f) (All-map _ (clear (outlook l) l.versions) l.versions i.stamps) (λ k t. value_same l.versions vs b k t) (λ k. newest_same l.versions vs b k) (λ k. granule_same l.versions vs b l.limits.granule k)

begin_stands : (s : Story) (l : Ledger) → TellsStory s l → (k : Kind) → IsSound (opened l k) → TellsStory (placing s (λ t. at_tick t (standing_in (begins k (l.clock + 1))) (s.stands t))) (opened l k)
begin_stands s l i Updater fine = inv_begin s l i Updater s.stands (λ t le. refl) (λ t lt. i.later t (omega arith)) (inl (i.later (suc l.clock) (omega arith))) fine
begin_stands s l i Reader fine =
    inv_begin s l i Reader (λ t. cond (eqb (l.clock + 1) t) (Some (l.clock + 1)) (s.stands t))
    (λ t le. rw (ne_eqb (l.clock + 1) t (λ e. omega arith)))
    (λ t lt. rw (ne_eqb (l.clock + 1) t (λ e. omega arith)) (i.later t (omega arith)))
    (inr (rw (eq-eqb (l.clock + 1) (suc l.clock) (omega arith)), refl)) fine

retold : {s z : Story} {l : Ledger} → s ≡ z → TellsStory s l → TellsStory z l
retold {l = l} e i = subst (λ x. TellsStory x l) e i

inv_made : (s : Story) (l m : Ledger) (d : Deed) → TellsStory s l → IsSound m → Makes l d m → TellsStory (story_with s d) m
inv_made s l m d i fine resting = retold (quiet_deed s rests (λ h. refl) (λ h. refl)) i
inv_made s l m d i fine (beginning {kind = k} few more) = retold (quiet_deed s (begins k (l.clock + 1)) (λ h. refl) (λ h. refl)) (begin_stands s l i k fine)
inv_made s l m d i fine (reading {h = g} {k = k} {n = n} how t f inside room) =
    let sight = sight_of how k (map (seen l t) (range_with_len k n)) in
    retold (story_same (did s g (read_range k n how) (sight ∷ [])) (story_with s d) (λ h. sym (push_cond (eqb g h) (s.operations h) (read_range k n how))) (λ h. sym (push_cond (eqb g h) (s.saw h) sight)) (λ x. refl))
    (inv_read s l i g t f k n how fine)
inv_made s l m d i fine (setting {h = g} {k = k} {x = x} t f upd inside room) =
    retold (story_same (did s g (write_key k x) []) (story_with s d) (λ h. sym (push_cond (eqb g h) (s.operations h) (write_key k x))) (λ h. sym (nil_cond (eqb g h) (s.saw h))) (λ y. refl))
    (inv_write s l i g t f k x upd fine)
inv_made s l m d i fine (committing {h = h} t f upd none_stale more room) = retold (quiet_deed (stood s (l.clock + 1) h) rests (λ g. refl) (λ g. refl)) (inv_commit s l i h t f upd none_stale fine)
inv_made s l m d i fine (ending {h = h} t f) =
    retold (quiet_deed s (ends h) (λ g. refl) (λ g. refl))
    (inv_less s l (ended l h) i fine refl refl (λ g t f. (found_without l.active h g t f).0) i.stamps (λ k t. refl) (λ k. refl) (λ k. refl))

inv_course : (s : Story) {l m : Ledger} {d : Deed} → TellsStory s l → Course l d m → TellsStory (story_with s d) m
inv_course s {l = l} {m = m} {d = d} i (course as_is makes) = inv_made s l m d i (sound_made l m d i.fine makes) makes
inv_course s {l = l} {m = m} {d = d} i (course after_reclaim makes) =
    let j = inv_reclaimed s l i in
    inv_made s (reclaimed l) m d j (sound_made (reclaimed l) m d j.fine makes) makes

pub inv : (n : Limits) (ms : List Made) → IsTold n ms → TellsStory (story ms) (after n ms)
inv n [] t = record {
  fine = sound (reached n []);
  stamps = tt;
  first = refl;
  later = λ t lt. refl;
  silent = λ h lt. (refl, refl);
  placed = λ t h e. cc;
  value = λ t k le. let z : t ≡ 0 = omega arith in subst (λ x. 0 ≡ tab (story []) x k) (sym z) refl;
  opened = λ h u e. cc;
}
inv n (m ∷ ms) t = inv_course (story ms) (inv n ms t.2) (course_told n m ms t)

pub table_is : (ms : List Made) (t : ℕ) → table ms t ≡ tab (story ms) t
table_is ms zero = refl
table_is ms (suc t) = ap (run (operations_of (stands_at ms (suc t)) ms)) (table_is ms t) ∙ go (stands_at ms (suc t))
  where
    go : (o : Option ℕ) → run (operations_of o ms) (tab (story ms) t) ≡ run (operations_at (story ms) o) (tab (story ms) t)
    go None = refl
    go (Some h) = refl

starts_late : (st : ℕ → Option ℕ) → st 0 ≡ None → (t h : ℕ) → st t ≡ Some h → 0 < t
starts_late st z zero h e = never h (st 0) z e
starts_late st z (suc t) h e = omega arith

-- who stands, stands at a tick that was drawn
pub within : (n : Limits) (ms : List Made) → IsTold n ms → (t h : ℕ) → stands_at ms t ≡ Some h → (0 < t) × (t ≤ (after n ms).clock)
within n ms told t h e =
    let i = inv n ms told in
    (starts_late (stands_at ms) i.first t h e, ⊎_elim (λ lt. never h (stands_at ms t) (i.later t lt) e) (λ le. le) (cases_lt (after n ms).clock t))

-- run alone in its place, each reads what it read
pub run_alone : (n : Limits) (ms : List Made) → IsTold n ms → (t h : ℕ) → stands_at ms (suc t) ≡ Some h → run_reads (operations h ms) (table ms t) ≡ saw h ms
run_alone n ms told t h e = ap (run_reads (operations h ms)) (table_is ms t) ∙ ((inv n ms told).placed t h e).same

-- and together they leave the newest values
pub leaves : (n : Limits) (ms : List Made) → IsTold n ms → (k : ℕ) → newest_value k (after n ms).versions ≡ table ms (after n ms).clock k
leaves n ms told k =
    let i = inv n ms told in
    let l = after n ms in
    sym (value_newest k l.clock (suc l.clock) l.versions i.stamps (omega arith)) ∙ i.value l.clock k (omega arith) ∙ ap (λ v. v k) (sym (table_is ms l.clock))
