-- What a closing of gaps leaves of a log means what a prune leaves of each key.
use Rattle.std.proofs.Common.{◌≡◌, ℕ, ◌-◌, ◌<◌, Bool, true, false, cond, ltb, List, [], ◌∷◌, ◌++◌, length, sym, refl, ap, ◌∙◌, ⊎_elim, append-nil, arith}
use Rattle.std.specs.List.{AllByRecursion, list_any}
use Rattle.std.proofs.lemmas.Bool.{eq-eqb, ne_eqb, cases_Bool, cases_eq}
use Rattle.std.proofs.ByRecursion.{every_from_all}
use Rattle.stamped.specs.Gaps.{closed}
use Rattle.versions.specs.declared.store.Version.{Version}
use Rattle.versions.specs.Stores.{Revision, AreFalling, pruned, kept, pruned_count}
use Rattle.versions.specs.Log.{revision_of, log_versions, store_of_log, AreOfKeys, outdated_by}
use Rattle.versions.proofs.Lists.{any_push}
use Rattle.versions.proofs.Meanings.{store_same, cut, survivors_cut, falls_cut, outdated_and_kept}
use Rattle.versions.proofs.Logs.{kept_all, each_known, oldest_same, oldest_other}

abbrev early : ℕ → Revision → Bool
early h v = ltb v.stamp h

cut_push : (h : ℕ) (vs : List Revision) (e : Revision) → cut h (vs ++ e ∷ []) ≡ cut h vs ++ cond (list_any (early h) vs) [] (e ∷ [])
cut_push h [] e = ⊎_elim (λ q. rw q refl) (λ q. rw q refl) (cases_Bool (ltb e.stamp h))
cut_push h (v ∷ vs) e =
    ⊎_elim
    (λ (q : ltb v.stamp h ≡ true). rw q refl)
    (λ (q : ltb v.stamp h ≡ false). rw q (ap (λ (r : List Revision). v ∷ r) (cut_push h vs e)))
    (cases_Bool (ltb v.stamp h))

-- a version is outdated just where a later one of its key is early
outdated_by_early : (h : ℕ) (x : Version) (ys : List Version) → outdated_by h x ys ≡ list_any (early h) (log_versions ys x.key)
outdated_by_early h x [] = refl
outdated_by_early h x (y ∷ ys) =
    ⊎_elim
    (λ (q : y.key ≡ x.key).
    let e = eq-eqb y.key x.key q in
    let a = ap (list_any (early h)) (oldest_same x.key y ys q) ∙ any_push (early h) (log_versions ys x.key) (revision_of y) in
    rw (e, outdated_by_early h x ys) (rw e at (sym a)))
    (λ (q : y.key ≡ x.key → ⊥).
    let e = ne_eqb y.key x.key q in
    rw (e, outdated_by_early h x ys) (rw e at (ap (list_any (early h)) (sym (oldest_other x.key y ys q)))))
    (cases_eq y.key x.key)

versions_closed : (h : ℕ) (log : List Version) (k : ℕ) → log_versions (closed (outdated_by h) log) k ≡ cut h (log_versions log k)
versions_closed h [] k = refl
versions_closed h (x ∷ xs) k =
    let ih = versions_closed h xs k in
    ⊎_elim
    (λ (q : x.key ≡ k).
    let a = ap (cut h) (oldest_same k x xs q) ∙ cut_push h (log_versions xs k) (revision_of x) in
    let n : outdated_by h x xs ≡ list_any (early h) (log_versions xs k) = outdated_by_early h x xs ∙ ap (λ (j : ℕ). list_any (early h) (log_versions xs j)) q in
    ⊎_elim
    (λ (t : outdated_by h x xs ≡ true). let u = sym n ∙ t in rw t (ih ∙ sym (a ∙ rw u (append-nil (cut h (log_versions xs k))))))
    (λ (t : outdated_by h x xs ≡ false).
    let u = sym n ∙ t in
    rw t
    (oldest_same k x (closed (outdated_by h) xs) q
    ∙ ap (λ (r : List Revision). r ++ revision_of x ∷ []) ih
    ∙ sym (a ∙ rw u refl)))
    (cases_Bool (outdated_by h x xs)))
    (λ (q : x.key ≡ k → ⊥).
    let a = ap (cut h) (oldest_other k x xs q) in
    ⊎_elim
    (λ (t : outdated_by h x xs ≡ true). rw t (ih ∙ sym a))
    (λ (t : outdated_by h x xs ≡ false). rw t (oldest_other k x (closed (outdated_by h) xs) q ∙ ih ∙ sym a))
    (cases_Bool (outdated_by h x xs)))
    (cases_eq x.key k)

all_closed : {X : Type 0} (P : X → Type 0) (drops : X → List X → Bool) (xs : List X) → AllByRecursion P xs → AllByRecursion P (closed drops xs)
all_closed P drops [] a = tt
all_closed P drops (x ∷ xs) a =
    ⊎_elim
    (λ (t : drops x xs ≡ true). rw t (all_closed P drops xs a.1))
    (λ (t : drops x xs ≡ false). rw t (a.0, all_closed P drops xs a.1))
    (cases_Bool (drops x xs))

module _ (h : ℕ) (log : List Version) (falling : AreFalling (log_versions log)) where
  pub closed_falling : AreFalling (log_versions (closed (outdated_by h) log))
  closed_falling k = rw (versions_closed h log k) (falls_cut h (log_versions log k) (falling k))

  pub closed_pruned : (keys cells : ℕ) → store_of_log keys cells (closed (outdated_by h) log) ≡ pruned (store_of_log keys cells log) h
  closed_pruned keys cells =
      store_same refl refl (λ k. versions_closed h log k ∙ sym (survivors_cut h (log_versions log k) (falling k)))

  module _ (keys : ℕ) (known : AreOfKeys keys log) where
    pub closed_known : AreOfKeys keys (closed (outdated_by h) log)
    closed_known k d within = every_from_all (λ v. v.key < keys) (closed (outdated_by h) log) (all_closed (λ v. v.key < keys) (outdated_by h) log (each_known keys log known)) k d (omega arith) within

    -- as many go as are outdated
    pub closed_count : (cells : ℕ) → length log - length (closed (outdated_by h) log) ≡ pruned_count (store_of_log keys cells log) h
    closed_count cells =
        let m = store_of_log keys cells log in
        let both = outdated_and_kept m h in
        let before = kept_all keys log known in
        let after : kept (pruned m h) ≡ length (closed (outdated_by h) log) = ap kept (sym (closed_pruned keys cells)) ∙ kept_all keys (closed (outdated_by h) log) closed_known in
        omega (arith, both, before, after)
