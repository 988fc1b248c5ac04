-- What does not look at whether a version is present.
use Rattle.std.proofs.Common.{◌≡◌, ℕ, max, false, cond, ◌&&◌, eqb, ltb, List, [], ◌∷◌, ◌++◌, map, Some, sym, refl, ap, ◌∙◌}
use mathlib.Core.Path.{fun_ext}
use Rattle.std.specs.List.{find}
use Rattle.std.specs.Option.{option_map}
use Rattle.std.proofs.lemmas.List.{map-append}
use Rattle.ledger.specs.Ledger.{Version, value_below, newest_value}
use Rattle.ledger.specs.Calls.{granule_stamp, StaleRead, stale_read_among}
use Rattle.ledger.specs.Laws.{newest_below}

-- the versions but for what is present
abbrev pub bare : List Version → List Version
bare vs = map (λ v. record { key = v.key; stamp = v.stamp; value = v.value; present = false }) vs

value_bare : (k t : ℕ) (vs : List Version) → value_below k t (bare vs) ≡ value_below k t vs
value_bare k t [] = refl
value_bare k t (v ∷ vs) = ap (cond (eqb v.key k && ltb v.stamp t) v.value) (value_bare k t vs)

newest_bare : (k : ℕ) (vs : List Version) → newest_value k (bare vs) ≡ newest_value k vs
newest_bare k [] = refl
newest_bare k (v ∷ vs) = ap (cond (eqb v.key k) v.value) (newest_bare k vs)

below_bare : (k t : ℕ) (vs : List Version) → newest_below k t (bare vs) ≡ newest_below k t vs
below_bare k t [] = refl
below_bare k t (v ∷ vs) = ap (cond (eqb v.key k && ltb v.stamp t) (Some (record { stamp = v.stamp; value = v.value }))) (below_bare k t vs)

granule_bare : (g : ℕ → ℕ) (k : ℕ) (vs : List Version) → granule_stamp g k (bare vs) ≡ granule_stamp g k vs
granule_bare g k [] = refl
granule_bare g k (v ∷ vs) = ap (λ n. cond (eqb (g v.key) (g k)) (max v.stamp n) n) (granule_bare g k vs)

abbrev pub stale_read_at : ℕ → ℕ → StaleRead
stale_read_at k s = record { key = k; stamp = s }

-- what does not look at the presence is the same of versions that are alike
module _ (vs us : List Version) (e : bare vs ≡ bare us) where
  pub value_same : (k t : ℕ) → value_below k t vs ≡ value_below k t us
  value_same k t = sym (value_bare k t vs) ∙ ap (value_below k t) e ∙ value_bare k t us

  pub below_same : (k t : ℕ) → newest_below k t vs ≡ newest_below k t us
  below_same k t = sym (below_bare k t vs) ∙ ap (newest_below k t) e ∙ below_bare k t us

  pub newest_same : (k : ℕ) → newest_value k vs ≡ newest_value k us
  newest_same k = sym (newest_bare k vs) ∙ ap (newest_value k) e ∙ newest_bare k us

  pub granule_same : (g : ℕ → ℕ) (k : ℕ) → granule_stamp g k vs ≡ granule_stamp g k us
  granule_same g k = sym (granule_bare g k vs) ∙ ap (granule_stamp g k) e ∙ granule_bare g k us

  pub stale_read_same : (g : ℕ → ℕ) (s : ℕ) (ks : List ℕ) → stale_read_among g vs s ks ≡ stale_read_among g us s ks
  stale_read_same g s ks = ap (λ (st : ℕ → ℕ). option_map (λ k. stale_read_at k (st k)) (find (λ k. ltb s (st k)) ks)) (fun_ext (granule_same g))

  pub bare_more : (news : List Version) → bare (news ++ vs) ≡ bare (news ++ us)
  bare_more news = map-append _ news vs ∙ ap (λ xs. bare news ++ xs) e ∙ sym (map-append _ news us)
