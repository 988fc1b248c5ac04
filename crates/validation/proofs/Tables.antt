-- A table of one stamp a granule.
use Rattle.std.proofs.Common.{◌≡◌, ℕ, ◌+◌, ◌*◌, ◌/◌, ◌<◌, ◌≤◌, cond, eqb, List, length, get_or, set, Ok, ap, mul-le-mul_right, suc-mul, arith}
use Rattle.std.proofs.lemmas.Grind.{common_steps, div_ceil_times}
use Rattle.std.specs.Int.{div_ceil}
use Rattle.std.specs.List.{AllWithin}
use Rattle.std.proofs.Math.Nat.{div-one}
use Rattle.std.proofs.lemmas.Nat.{div_below, div-mul-add}
use Rattle.validation.specs.Stamps.{latest, granule_answer, noted}
use Rattle.validation.specs.Table.{table_stamps}
use Rattle.validation.proofs.Answering.{latest_at, latest_is, same_stamps, noted_fine, granule_known}

-- a granule of one key is the key
pub granule_of_one : ◌≡◌ {A = ℕ → ℕ} (λ k. k / 1) (λ k. k)
granule_of_one = λ i k. div-one k i

module _ (keys grain : ℕ) (some : 0 < grain) where
  -- each key's granule has its place
  granule_in : (k : ℕ) → k < keys → k / grain < div_ceil keys grain
  granule_in k in' = div_below k grain (div_ceil keys grain) some (omega (arith, div_ceil_times keys grain some))

  -- each place is some key's granule
  key_in : (g : ℕ) → g < div_ceil keys grain → (k : ℕ) × (k < keys) × (k / grain ≡ g)
  key_in g in' =
      let upto = mul-le-mul_right grain in' in
      (g * grain + 0, omega (arith, div_ceil_times keys grain some, suc-mul g grain), div-mul-add g grain 0 some)

  module _ (stamps : List ℕ) (places : length stamps ≡ div_ceil keys grain) where
    -- a key whose granule is answered is known, and its granule has a place
    pub placed : (k g : ℕ) → Ok g ≡ granule_answer (table_stamps keys grain stamps) k → (k < keys) × (g ≡ k / grain) × (g < length stamps)
    placed k g is =
        let known = granule_known (table_stamps keys grain stamps) k g is in
        let in' = granule_in k known.0 in
        (known.0, known.1, omega (arith, known.1))

    pub stamp_latest : (g : ℕ) → g < length stamps → get_or stamps g 0 ≤ latest (table_stamps keys grain stamps)
    stamp_latest g in' =
        let k = key_in g (omega arith) in
        let most = latest_at (table_stamps keys grain stamps) k.0 k.1 in
        let same = ap (λ (h : ℕ). get_or stamps h 0) k.2 in
        omega (arith, most, same)

    pub stamps_latest : (b : ℕ) → AllWithin (λ s. s ≤ b) stamps 0 (length stamps) → b ≤ latest (table_stamps keys grain stamps) → b ≡ latest (table_stamps keys grain stamps)
    stamps_latest b all most = latest_is (table_stamps keys grain stamps) b (λ k in'. let g = granule_in k in' in all (k / grain) 0 (omega arith) (omega arith)) most

module _ (keys grain : ℕ) where
  -- a stamp set in a key's place
  pub set_noted : (stamps : List ℕ) (k g s : ℕ) → k < keys → g ≡ k / grain → g < length stamps → get_or stamps g 0 ≤ s → table_stamps keys grain (set stamps g s) ≡ noted (table_stamps keys grain stamps) k s
  set_noted stamps k g s known is in' fresh =
      noted_fine (table_stamps keys grain stamps) k s known (rw is at fresh) (table_stamps keys grain (set stamps g s))
      (same_stamps (table_stamps keys grain (set stamps g s)) (λ j. cond (eqb (k / grain) j) s (get_or stamps j 0)) (λ j. grind (arith, common_steps)))
