-- What a total is to the ledger: a read, told in one figure.
use Rattle.std.proofs.Common.{◌≡◌, ℕ, ◌+◌, Bool, true, false, cond, not, ◌&&◌, eqb, ltb, List, [], ◌∷◌, ◌++◌, map, length, Some, None, Ok, Err, Option, Result, refl, ap, ◌∙◌, arith}
use Rattle.std.specs.List.{range_with_len}
use Rattle.std.specs.Result.{result_and}
use Rattle.std.proofs.lemmas.List.{length-replicate}
use Rattle.std.proofs.lemmas.List.FromFn.{length-map-range_with_len}
use Rattle.std.proofs.lemmas.Bool.{le-ltb, le-leb}
use Rattle.refusals.specs.Results.{result_map}
use Rattle.ledger.specs.declared.SummaryKind.{SummaryKind}
use Rattle.ledger.specs.declared.SummaryKind.TheVariants.{Sum, Smallest, NonZero}
use Rattle.ledger.specs.declared.Figure.{Figure}
use Rattle.ledger.specs.declared.Fault.{Fault}
use Rattle.ledger.specs.declared.Fault.TheVariants.{KeyOutside, ShortBuffer, ReadListFull}
use Rattle.ledger.specs.declared.Done.{Done}
use Rattle.ledger.specs.declared.Call.{Call}
use Rattle.ledger.specs.Ledger.{Limits, Transaction, Ledger, handle_of, found, is_reader}
use Rattle.ledger.specs.Figures.{figure_of}
use Rattle.ledger.specs.Calls.{new_buffer, Effect, Outcome, outcome, maker, in_table, joins, joined, read_list_full, with_range, seen, changed, with_active, read_effect, read_result, total_effect, step}
use Rattle.ledger.specs.History.{Made, after, IsTold}
use Rattle.ledger.specs.Laws.{total_answer, TotalLaw, total_now, neutral_figure, AcceptsNoKeys, JoinsNoKeys, NoKeysLaw}
use Rattle.ledger.proofs.Steps.{checked, read_way, filled}
use Rattle.ledger.proofs.Orders.{told_older}

-- a total beside the read that it is
pub record TellsFigure (s : SummaryKind) (k : ℕ) (b : List ℕ) (read total : Outcome) : Type 0 where
  pub answer : total.answer ≡ result_map (λ _. Done.Total (figure_of s k read.buffer)) read.answer
  pub buffer : total.buffer ≡ b
  pub ledger : total.ledger ≡ read.ledger

pub tells_figure : (l : Ledger) (h k n : ℕ) (s : SummaryKind) (b : List ℕ) → TellsFigure s k b (step l (Call.Read h k n) (new_buffer n)) (step l (Call.Total h k n s) b)
tells_figure l h k n s b = go (read_result l (new_buffer n) h k n)
  where
    go : (r : Result Effect Fault) → TellsFigure s k b (outcome l (new_buffer n) r) (outcome l b (result_map (total_effect b k s) r))
    go (Ok e) = record { answer = refl; buffer = refl; ledger = refl }
    go (Err f) = record { answer = refl; buffer = refl; ledger = refl }

-- a read with just so many places leaves as many
pub read_fills : (l : Ledger) (h k n : ℕ) → length (step l (Call.Read h k n) (new_buffer n)).buffer ≡ n
read_fills l h k n = read_way l (new_buffer n) h k n (λ r. length (outcome l (new_buffer n) r).buffer ≡ n) (λ _. length-replicate n 0) (λ t e inside room. ap length (filled (seen l t) k n) ∙ length-map-range_with_len (seen l t) k n)

-- what a read into such a buffer gives, as a figure: refused by a read's checks, but for the buffer, which has room enough
pub told_of : {X : Type 0} (figure : List ℕ → X) (l : Ledger) (h k n : ℕ) → result_map (λ _. figure (step l (Call.Read h k n) (new_buffer n)).buffer) (step l (Call.Read h k n) (new_buffer n)).answer ≡ total_answer figure l h k n (found l.active h)
told_of {X = X} figure l h k n = by_one (found l.active h)
  where
    told : Outcome → Result X Fault
    told o = result_map (λ _. figure o.buffer) o.answer

    room : ltb (length (new_buffer n)) n ≡ false
    room = le-ltb (length (new_buffer n)) n (omega (arith, length-replicate {A = ℕ} n 0))

    by_one : (o : Option Transaction) → told (checked l (new_buffer n) (maker l.limits.keys (length (new_buffer n)) h (Call.Read h k n) o) (read_effect l (new_buffer n) h k n)) ≡ total_answer figure l h k n o
    by_one None = refl
    by_one (Some t) = go (in_table l.limits.keys k n) (joins t n && read_list_full t.reads k n)
      where
        go : (i j : Bool) → told (checked l (new_buffer n) (result_map (λ _. t) (result_and (cond {A = Result (Unit {0}) Fault} (not i) (Err (KeyOutside k)) (cond {A = Result (Unit {0}) Fault} (ltb (length (new_buffer n)) n) (Err (ShortBuffer (length (new_buffer n)))) (Ok tt))) (cond {A = Result (Unit {0}) Fault} j (Err (ReadListFull h)) (Ok tt)))) (read_effect l (new_buffer n) h k n))
            ≡ cond {A = Result X Fault} (not i) (Err (KeyOutside k)) (cond {A = Result X Fault} j (Err (ReadListFull h)) (Ok (figure (map (seen l t) (range_with_len k n)))))
        go false j = refl
        go true true = rw room refl
        go true false = rw room (ap (λ xs. Ok (figure xs)) (filled (seen l t) k n))

pub total : TotalLaw
total l h k n s b =
    let tells = tells_figure l h k n s b in
    record { answer = tells.answer ∙ told_of (λ xs. Done.Total (figure_of s k xs)) l h k n; buffer = tells.buffer; ledger = tells.ledger }

-- Totals of no keys

-- a range of no keys joins no read list
unjoined : (u : Transaction) (k : ℕ) → joined u k 0 ≡ u
unjoined u k = go (is_reader u.kind)
  where
    go : (b : Bool) → cond {A = Transaction} (not b && ltb 0 0) (record u { reads = with_range u.reads k 0 }) u ≡ u
    go true = refl
    go false = refl

unchanged : (ts : List Transaction) (h k : ℕ) → changed ts h (λ u. joined u k 0) ≡ ts
unchanged [] h k = refl
unchanged (t ∷ ts) h k = rw (unchanged ts h k) (go (eqb (handle_of t) h))
  where
    go : (b : Bool) → cond b (joined t k 0) t ∷ ts ≡ t ∷ ts
    go true = ap (λ u. u ∷ ts) (unjoined t k)
    go false = refl

same_ledger : (l : Ledger) (h k : ℕ) (s : SummaryKind) (b : List ℕ) → (step l (Call.Total h k 0 s) b).ledger ≡ l
same_ledger l h k s b = read_way l [] h k 0 (λ r. (outcome l b (result_map (total_effect b k s) r)).ledger ≡ l) (λ _. refl) (λ t e inside room. ap (with_active l) (unchanged l.active h k))

pub figure_same : (f g : Figure) → ◌≡◌ {A = Result Done Fault} (Ok (Done.Total f)) (Ok (Done.Total g)) → f ≡ g
figure_same f g q = cc

-- of no values each figure is the neutral one
none : (k : ℕ) (s : SummaryKind) → figure_of s k [] ≡ neutral_figure s
none k Sum = refl
none k Smallest = refl
none k NonZero = refl

neutral : (l : Ledger) (h k : ℕ) (s : SummaryKind) (f : Figure) (b : List ℕ) → Ok (Done.Total f) ≡ (step l (Call.Total h k 0 s) b).answer → f ≡ neutral_figure s
neutral l h k s f b = read_way l [] h k 0 (λ r. Ok (Done.Total f) ≡ (outcome l b (result_map (total_effect b k s) r)).answer → f ≡ neutral_figure s) (λ _ q. cc) (λ t e inside room q. figure_same f (figure_of s k []) q ∙ none k s)

accepts : AcceptsNoKeys
accepts l h k s b t e inside = (total l h k 0 s b).answer ∙ ap (total_answer (λ xs. Done.Total (figure_of s k xs)) l h k 0) e ∙ rw (le-leb (k + 0) l.limits.keys (omega (arith, inside))) (go (is_reader t.kind))
  where
    go : (r : Bool) → cond {A = Result Done Fault} ((not r && ltb 0 0) && read_list_full t.reads k 0) (Err (ReadListFull h)) (Ok (Done.Total (figure_of s k []))) ≡ Ok (Done.Total (neutral_figure s))
    go true = ap (λ f. Ok (Done.Total f)) (none k s)
    go false = ap (λ f. Ok (Done.Total f)) (none k s)

-- what led to the same ledger before goes on alike
module _ (n : Limits) (m : Made) (older : List Made) (same : after n (m ∷ older) ≡ after n older) where
  same_after : (newer : List Made) → after n (newer ++ (m ∷ older)) ≡ after n (newer ++ older)
  same_after [] = same
  same_after (x ∷ newer) = ap (λ l. (step l x.call x.given).ledger) (same_after newer)

  told_without : (newer : List Made) → IsTold n (newer ++ (m ∷ older)) → IsTold n (newer ++ older)
  told_without [] t = t.2
  told_without (x ∷ newer) t = (t.0 ∙ ap (λ l. (step l x.call x.given).answer) (same_after newer), t.1 ∙ ap (λ l. (step l x.call x.given).buffer) (same_after newer), told_without newer t.2)

joins_nothing : JoinsNoKeys
joins_nothing n newer older h k s f b b' told =
    let m = total_now h k 0 s f b b' in
    let same = same_ledger (after n older) h k s b in
    (neutral (after n older) h k s f b (told_older n newer (m ∷ older) told).0, same, told_without n m older same newer told)

pub no_keys : NoKeysLaw
no_keys = (accepts, joins_nothing)
