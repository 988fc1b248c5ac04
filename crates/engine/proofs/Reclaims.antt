-- Reclaim: what was done to store and validator is the ledger's step.
use Rattle.std.proofs.Common.{◌≡◌, ℕ, ◌+◌, ◌-◌, ◌^◌, ◌<◌, min, Bool, true, false, cond, ◌&&◌, List, [], length, filter, Ok, Some, None, Option, sym, refl, ap, ◌∙◌, subst, arith}
use Rattle.std.specs.List.{AllByRecursion}
use Rattle.std.specs.Option.{is_some, option_map}
use Rattle.ledger.specs.declared.Kind.{Kind}
use Rattle.ledger.specs.declared.Kind.TheVariants.{Reader, Updater}
use Rattle.ledger.specs.declared.Call.TheVariants.{Reclaim}
use Rattle.ledger.specs.declared.Done.TheVariants.{Reclaimed}
use Rattle.ledger.specs.Ledger.{Version, Ledger, Shortage, least_start, outlook, trim_tick, dead, shortage}
use Rattle.ledger.specs.Calls.{reclaimed, shortage_in, reclaimed_if_short}
use Rattle.ledger.specs.Reach.{next}
use Rattle.ledger.proofs.Orders.{dated, orderly, idle}
use Rattle.versions.specs.Stores.{Store, kept, pruned, pruned_count}
use Rattle.validation.specs.Stamps.{Stamps, trimmed}
use Rattle.transaction_table.specs.declared.table.TransactionTable.{TransactionTable}
use Rattle.transaction_table.specs.View.{active_of}
use Rattle.transaction_table.specs.Slots.{is_of_kind}
use Rattle.engine.specs.Fits.{Fits}
use Rattle.engine.specs.Steps.{FollowsStep}
use Rattle.transaction_table.proofs.Shuffles.{shuffle_least}
use Rattle.engine.proofs.Fittings.{last_is, limits_are}
use Rattle.engine.proofs.Prunes.{holds_reclaimed, dead_is, shortage_is}

-- Reclaim

-- the least start of the records is that of the ledger's transactions
least_is : {l : Ledger} {t : TransactionTable} {s : Store} {v : Stamps} → Fits l t s v → (kind : Kind) → least_start (is_of_kind kind) (min (t.clock + 1) (2 ^ 32 - 1)) (active_of t.records) ≡ least_start (is_of_kind kind) (l.clock + 1) l.active
least_is {l = l} {t = t} f kind =
    let next-tick : min (t.clock + 1) (2 ^ 32 - 1) ≡ l.clock + 1 = omega (arith, f.clock, f.ticks, last_is f, (dated f.reached).ticks) in
    ap (λ n. least_start (is_of_kind kind) n (active_of t.records)) next-tick ∙ sym (shuffle_least (is_of_kind kind) (l.clock + 1) f.active)

-- without a tick there is nothing to reclaim
pub reclaim_idle : {l : Ledger} {t : TransactionTable} {s : Store} {v : Stamps} → Fits l t s v → t.last ≡ 0 → (b : List ℕ) → FollowsStep l Reclaim b (Ok (Reclaimed 0)) b t s v
reclaim_idle {l = l} {t = t} {s = s} {v = v} f none b = record {
  answer = ap (λ x. Ok (Reclaimed x)) (sym (none_dead (dead l) l.versions (idle f.reached (last_is f ∙ none)).1));
  buffer = refl;
  after = record { reached = next Reclaim b f.reached; ticks = f.ticks; limits = f.limits; clock = f.clock; active = f.active; holds = λ p. absurd (omega arith) };
}
  where
    none_dead : (d : Version → Bool) (vs : List Version) → vs ≡ [] → length (filter (λ x. x.present && d x) vs) ≡ 0
    none_dead d vs e = ap (λ xs. length (filter (λ x. x.present && d x) xs)) e

pub reclaim_steps : {l : Ledger} {t : TransactionTable} {s s' : Store} {v v' : Stamps} → Fits l t s v → 0 < t.last → (b : List ℕ) (h u n : ℕ)
    → n ≡ pruned_count s h → s' ≡ pruned s h → v' ≡ trimmed v u
    → h ≡ least_start (is_of_kind Reader) (min (t.clock + 1) (2 ^ 32 - 1)) (active_of t.records)
    → u ≡ least_start (is_of_kind Updater) (min (t.clock + 1) (2 ^ 32 - 1)) (active_of t.records)
    → FollowsStep l Reclaim b (Ok (Reclaimed n)) b t s' v'
reclaim_steps {l = l} {t = t} {s = s} {s' = s'} {v = v} {v' = v'} f on b h u n en es ev eh eu =
    let at-o : h ≡ outlook l = eh ∙ least_is f Reader in
    let at-u : u ≡ trim_tick l = eu ∙ least_is f Updater in
    let order = orderly l f.reached in
    let has = f.holds on in
    let same_store : pruned s (outlook l) ≡ s' = sym (es ∙ ap (pruned s) at-o) in
    let same_stamps : trimmed v (trim_tick l) ≡ v' = sym (ev ∙ ap (trimmed v) at-u) in
    let fits : Fits (reclaimed l) t (pruned s (outlook l)) (trimmed v (trim_tick l)) = record { reached = next Reclaim b f.reached; ticks = f.ticks; limits = f.limits; clock = f.clock; active = f.active; holds = λ _. holds_reclaimed l s v order has } in
    record {
      answer = ap (λ x. Ok (Reclaimed x)) (en ∙ ap (pruned_count s) at-o ∙ dead_is l s v order has (sym (ap (λ x. x.keys) (limits_are f on))));
      buffer = refl;
      after = subst (λ x. Fits (reclaimed l) t x v') same_store (subst (λ x. Fits (reclaimed l) t (pruned s (outlook l)) x) same_stamps fits);
    }

-- Short of cells

module _ {l : Ledger} {t : TransactionTable} {s : Store} {v : Stamps} (f : Fits l t s v) (on : 0 < t.last) where
  -- as many cells are lacking
  pub shortage_told : (n : ℕ) → shortage s.cells (kept s) n ≡ shortage_in l n
  shortage_told n =
      let m = limits_are f on in
      let keys : AllByRecursion (λ u. u.key < s.keys) l.versions = subst (λ k. AllByRecursion (λ u. u.key < k) l.versions) (ap (λ x. x.keys) m) (dated f.reached).keys in
      shortage_is l s v (f.holds on) keys (sym (ap (λ x. x.cells) m)) n

  pub fits_if_short : (n : ℕ) (short : Bool) → short ≡ is_some (shortage s.cells (kept s) n) → {t' : TransactionTable} {s' : Store} {v' : Stamps} → (short ≡ true → Fits (reclaimed l) t' s' v') → (short ≡ false → Fits l t' s' v') → Fits (reclaimed_if_short l n) t' s' v'
  fits_if_short n short e {t' = t'} {s' = s'} {v' = v'} after before = subst (λ b. Fits (cond b (reclaimed l) l) t' s' v') (e ∙ ap is_some (shortage_told n)) (go short after before)
    where
      go : (b : Bool) → (b ≡ true → Fits (reclaimed l) t' s' v') → (b ≡ false → Fits l t' s' v') → Fits (cond b (reclaimed l) l) t' s' v'
      go true p q = p refl
      go false p q = q refl

-- cells are lacking just where it is told how many are free
pub is_short : (o : Option Shortage) → is_some (option_map (λ (x : Shortage). x.free) o) ≡ is_some o
is_short None = refl
is_short (Some x) = refl
