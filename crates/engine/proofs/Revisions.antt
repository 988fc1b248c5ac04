-- What a store shows of its revisions is what the ledger shows.
use Rattle.std.proofs.Common.{◌≡◌, ℕ, ◌+◌, ◌<◌, ◌≤◌, Bool, true, false, cond, ◌&&◌, eqb, ltb, List, [], ◌∷◌, sym, refl, ap, ◌∙◌, arith}
use Rattle.std.specs.List.{AllByRecursion}
use Rattle.std.proofs.ByRecursion.{All-weaker}
use Rattle.std.proofs.lemmas.Bool.{ltb-false, lt-ltb, eqb-true, eqb-false, both_ways}
use Rattle.ledger.specs.Ledger.{Version, Ledger, Outlook, outlook, unseen, value_below, newest_value}
use Rattle.ledger.specs.Orderly.{AreNewestFirst}
use Rattle.ledger.specs.Reach.{IsReached}
use Rattle.ledger.proofs.Outlooks.{Looks, looks_ahead, chosen_seen}
use Rattle.ledger.proofs.Orders.{order}
use Rattle.ledger.proofs.Stories.{value_newest}
use Rattle.versions.specs.Stores.{as_of, newest}
use Rattle.engine.specs.Fits.{as_revision, revisions_of}

-- each version of x's key that is newer than x is stamped at t or later
abbrev IsChosen : ℕ → Version → List Version → Type 0
IsChosen t x vs = AllByRecursion (λ w. w.key ≡ x.key → x.stamp < w.stamp → t ≤ w.stamp) vs

-- no version is missed that is chosen at a moment looked at
value_present : (o : Outlook) (t k : ℕ) (all vs : List Version) → AreNewestFirst vs → AllByRecursion (λ v. v.present ≡ false → unseen o all v ≡ true) vs → ((x : Version) → x.key ≡ k → IsChosen t x vs → unseen o all x ≡ false) → value_below k t vs ≡ (as_of t (revisions_of k vs)).value
value_present o t k all [] fall removed near = refl
value_present o t k all (v ∷ vs) fall removed near = go (eqb v.key k) (ltb v.stamp t) v.present refl refl refl (value_present o t k all vs fall.1 removed.1)
  where
    go : (a b p : Bool) → eqb v.key k ≡ a → ltb v.stamp t ≡ b → v.present ≡ p → (((x : Version) → x.key ≡ k → IsChosen t x vs → unseen o all x ≡ false) → value_below k t vs ≡ (as_of t (revisions_of k vs)).value) → cond (a && b) v.value (value_below k t vs) ≡ (as_of t (cond (a && p) (as_revision v ∷ revisions_of k vs) (revisions_of k vs))).value
    go true true true d e f ih = rw e
    go true true false d e f ih =
        let older : IsChosen t v vs = All-weaker (λ w. w.stamp ≤ v.stamp) (λ w. w.key ≡ v.key → v.stamp < w.stamp → t ≤ w.stamp) (λ w le q lt. absurd (omega arith)) vs fall.0 in
        absurd (both_ways _ (near v (eqb-true v.key k d) (λ q lt. absurd (omega arith), older)) (removed.0 f))
    go true false p d e f ih = two p (ih (λ x q a. near x q (λ same lt. ltb-false v.stamp t e, a)))
      where
        two : (p : Bool) → value_below k t vs ≡ (as_of t (revisions_of k vs)).value → value_below k t vs ≡ (as_of t (cond p (as_revision v ∷ revisions_of k vs) (revisions_of k vs))).value
        two true r = rw e r
        two false r = r
    go false b p d e f ih = ih (λ x q a. near x q (λ same lt. absurd (eqb-false v.key k d (same ∙ q)), a))

-- where all stamps are below a tick, the newest is the newest below it
newest_as_of : (k t : ℕ) (vs : List Version) → AllByRecursion (λ v. v.stamp < t) vs → as_of t (revisions_of k vs) ≡ newest (revisions_of k vs)
newest_as_of k t [] a = refl
newest_as_of k t (v ∷ vs) a = go (eqb v.key k && v.present) (lt-ltb v.stamp t a.0) (newest_as_of k t vs a.1)
  where
    go : (b : Bool) → ltb v.stamp t ≡ true → as_of t (revisions_of k vs) ≡ newest (revisions_of k vs) → as_of t (cond b (as_revision v ∷ revisions_of k vs) (revisions_of k vs)) ≡ newest (cond b (as_revision v ∷ revisions_of k vs) (revisions_of k vs))
    go true e ih = rw e
    go false e ih = ih

module _ {l : Ledger} (r : IsReached l) (k : ℕ) where
  pub value_at : (t : ℕ) → Looks (outlook l) t → (as_of t (revisions_of k l.versions)).value ≡ value_below k t l.versions
  value_at t looks = sym (value_present (outlook l) t k l.versions l.versions (order r).dated.falling (order r).safe.removed (λ x q a. chosen_seen looks x l.versions a))

  pub value_now : (newest (revisions_of k l.versions)).value ≡ newest_value k l.versions
  value_now =
      let stamps = (order r).dated.stamps in
      ap (λ v. v.value) (sym (newest_as_of k (l.clock + 1) l.versions (All-weaker _ (λ x. x.stamp < l.clock + 1) (λ x le. omega arith) l.versions stamps)))
      ∙ value_at (l.clock + 1) (looks_ahead l)
      ∙ value_newest k l.clock (l.clock + 1) l.versions stamps (omega arith)
