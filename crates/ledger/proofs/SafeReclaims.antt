-- In every ledger that is reached a removed version is dead, the cells hold what is present, and no trim goes too far.
use Rattle.std.proofs.Common.{◌≡◌, ℕ, ◌+◌, ◌≤◌, max, Bool, true, false, not, ◌&&◌, List, [], ◌∷◌, ◌++◌, length, filter, sym, subst, ◌-◌, refl, ap, ◌∙◌, arith}
use Rattle.std.specs.List.{AllByRecursion}
use Rattle.std.proofs.ByRecursion.{All-append, All-weaker, All-map, all_kept_by}
use Rattle.ledger.specs.declared.Call.{Call}
use Rattle.ledger.specs.declared.Write.{Write}
use Rattle.ledger.specs.Ledger.{Transaction, Version, Ledger, is_reader, outlook, trim_tick, dead, present_count}
use Rattle.ledger.specs.Calls.{changed, reclaimed, stamped, installed}
use Rattle.ledger.specs.History.{Deed}
use Rattle.ledger.specs.Orderly.{IsSafelyReclaimed}
use Rattle.ledger.proofs.Actives.{KeepsIdentity, call_keeps, least_le, least_each, all_changed_same, all_two}
use Rattle.ledger.proofs.DatedVersions.{all_stamped, all_each}
use Rattle.ledger.proofs.Deaths.{clear, ages_made, dead_later, dead_reclaimed, present_swept}
use Rattle.ledger.proofs.Steps.{Makes, resting, beginning, reading, setting, committing, ending}

abbrev IsTrimmedBelow : ℕ → List Transaction → Type 0
IsTrimmedBelow n ts = AllByRecursion (λ t. is_reader t.kind ≡ false → n ≤ t.start) ts

-- the versions stay, and so does what is dead
safe_moved : (l m : Ledger) → IsSafelyReclaimed l → m.limits ≡ l.limits → m.versions ≡ l.versions → m.trimmed_at ≡ l.trimmed_at → l.clock ≤ m.clock → ((v : Version) → dead l v ≡ true → dead m v ≡ true) → IsTrimmedBelow l.trimmed_at m.active → IsSafelyReclaimed m
safe_moved l m y limits versions trimmed later dies trims = record {
  removed = subst (λ vs. AllByRecursion (λ v. v.present ≡ false → dead m v ≡ true) vs) (sym versions) (All-weaker _ (λ v. v.present ≡ false → dead m v ≡ true) (λ v q e. dies v (q e)) l.versions y.removed);
  cells = subst (λ vs. length (filter (λ v. v.present) vs) ≤ m.limits.cells) (sym versions) (subst (λ n. length (filter (λ v. v.present) l.versions) ≤ n.cells) (sym limits) y.cells);
  trims = subst (λ n. IsTrimmedBelow n m.active) (sym trimmed) trims;
  trimmed_by = omega (arith, y.trimmed_by, trimmed);
}

trims_changed : (l : Ledger) (h : ℕ) (f : Transaction → Transaction) → KeepsIdentity f → IsTrimmedBelow l.trimmed_at l.active → IsTrimmedBelow l.trimmed_at (changed l.active h f)
trims_changed l h f k a = all_changed_same (λ s kind. is_reader kind ≡ false → l.trimmed_at ≤ s) l.active h f k a

gone : (p s : Bool) → (p ≡ false → s ≡ true) → (p && not s) ≡ false → s ≡ true
gone true true f e = refl
gone true false f e = cc
gone false s f e = f refl

pub safe_reclaimed : (l : Ledger) → IsSafelyReclaimed l → IsSafelyReclaimed (reclaimed l)
safe_reclaimed l y =
    let C = clear (outlook l) l.versions in
    record {
      removed = All-map (λ v. v.present ≡ false → dead (reclaimed l) v ≡ true) C l.versions (All-weaker _ (λ v. (C v).present ≡ false → dead (reclaimed l) (C v) ≡ true) (λ v q e. dead_reclaimed l (C v) ∙ gone v.present (dead l v) q e) l.versions y.removed);
      cells = omega (arith, y.cells, present_swept (outlook l) l.versions l.versions);
      trims = all_two (λ t. is_reader t.kind ≡ false → l.trimmed_at ≤ t.start) (λ t. not (is_reader t.kind) ≡ true → trim_tick l ≤ t.start) (λ t. is_reader t.kind ≡ false → max l.trimmed_at (trim_tick l) ≤ t.start) (λ t p q e. let a = p e in let b = q (ap not e) in omega arith) l.active y.trims (least_each (λ k. not (is_reader k)) (l.clock + 1) l.active);
      trimmed_by = omega (arith, y.trimmed_by, least_le (λ k. not (is_reader k)) (l.clock + 1) l.active);
    }

count_stamped : (c : ℕ) (ws : List Write) (vs : List Version) → length (filter (λ v. v.present) (stamped c ws ++ vs)) ≡ length ws + length (filter (λ v. v.present) vs)
count_stamped c [] vs = omega arith
count_stamped c (w ∷ ws) vs = let h = count_stamped c ws vs in omega arith

safe_installed : (l : Ledger) (t : Transaction) → IsSafelyReclaimed l → ((v : Version) → dead l v ≡ true → dead (installed l t) v ≡ true) → length t.writes ≤ l.limits.cells - present_count l → IsSafelyReclaimed (installed l t)
safe_installed l t y dies room =
    let c = l.clock + 1 in
    let m = installed l t in
    record {
      removed = All-append _ (stamped c t.writes) l.versions
          (all_stamped (λ v. v.present ≡ false → dead m v ≡ true) c t.writes (all_each _ (λ w e. cc) t.writes))
          (All-weaker _ (λ v. v.present ≡ false → dead m v ≡ true) (λ v q e. dies v (q e)) l.versions y.removed);
      cells = omega (arith, y.cells, room, count_stamped c t.writes l.versions);
      trims = all_kept_by _ _ l.active y.trims;
      trimmed_by = omega (arith, y.trimmed_by);
    }

safe_by : (l m : Ledger) (d : Deed) → IsSafelyReclaimed l → ((v : Version) → dead l v ≡ true → dead m v ≡ true) → Makes l d m → IsSafelyReclaimed m
safe_by l m d y dies resting = y
safe_by l m d y dies (beginning {kind = kind} few more) = safe_moved l m y refl refl refl (omega arith) dies (λ _. y.trimmed_by, y.trims)
safe_by l m d y dies (reading {h = h} {k = k} {n = n} how t f inside room) = safe_moved l m y refl refl refl (omega arith) dies (trims_changed l h _ (call_keeps (Call.Read h k n)) y.trims)
safe_by l m d y dies (setting {h = h} {k = k} {x = x} t f upd inside room) = safe_moved l m y refl refl refl (omega arith) dies (trims_changed l h _ (call_keeps (Call.Write h k x)) y.trims)
safe_by l m d y dies (committing t f upd none_stale more room) = safe_installed l t y dies room
safe_by l m d y dies (ending {h = h} t f) = safe_moved l m y refl refl refl (omega arith) dies (all_kept_by _ _ l.active y.trims)

pub safe_made : (l m : Ledger) (d : Deed) → IsSafelyReclaimed l → Makes l d m → IsSafelyReclaimed m
safe_made l m d y s = safe_by l m d y (dead_later l m (ages_made l m d s)) s
