-- What holds of every chain store, and that an add keeps it.
use Rattle.std.proofs.Common.{◌≡◌, ℕ, ◌+◌, ◌-◌, ◌<◌, ◌≤◌, eqb, List, length, get_or, set, Some, None, Ok, Option, sym, refl, ap, ◌∙◌, arith}
use Rattle.std.proofs.lemmas.List.{length-set}
use Rattle.versions.specs.declared.fault.StoreFault.TheVariants.{Full}
use Rattle.stamped.specs.declared.TheConstants.{MAX_KEYS}
use Rattle.versions.specs.declared.store.TheConstants.{MAX_CELLS}
use Rattle.versions.specs.Stores.{newest, newest_answer, add_answer, added, kept, AreFalling}
use Rattle.versions.proofs.Meanings.{newest_ok, add_full, add_fine, added_refused, added_done}
use Rattle.chain.specs.declared.cell.Cell.{Cell}
use Rattle.chain.specs.declared.store.ChainStore.{ChainStore}
use Rattle.chain.specs.Links.{cell_at, filled, list_from}
use Rattle.chain.specs.Store.{chain_versions, store_of_chains, IsWellLinked}
use Rattle.chain.proofs.Chains.{list_step}
use Rattle.chain.specs.Laws.{kept_and_unused}
use Rattle.chain.proofs.Adds.{adds, added_falls, added_means}

pub record IsChainStore (heads : List (Option ℕ)) (cells : List Cell) (unused : Option ℕ) (free : ℕ) : Type 0 where
  pub few : length heads ≤ MAX_KEYS
  pub small : length cells ≤ MAX_CELLS
  pub both : eqb (length heads) 0 ≡ eqb (length cells) 0
  pub sound : IsWellLinked heads cells unused
  pub counted : kept (store_of_chains heads cells) + free ≡ length cells
  pub falling : AreFalling (chain_versions heads cells)

pub facts : (s : ChainStore) → IsChainStore s.heads.now s.cells.now s.unused s.free
facts s =
    record {
      few = s.few;
      small = s.small;
      both = s.both;
      sound = record { chains = s.chains; rest = s.rest; shared = s.shared; held = s.held };
      counted = s.counted;
      falling = s.falling;
    }

-- the free cells are the unused ones
free_is : (heads : List (Option ℕ)) (cells : List Cell) (unused : Option ℕ) (free : ℕ) → IsChainStore heads cells unused free → free ≡ length (list_from cells unused)
free_is heads cells unused free f = omega (arith, f.counted, kept_and_unused heads cells unused f.sound)

pub some_free : (heads : List (Option ℕ)) (cells : List Cell) (unused : Option ℕ) (free cell : ℕ) → IsChainStore heads cells unused free → unused ≡ Some cell → 1 ≤ free
some_free heads cells unused free cell f some =
    omega (arith, free_is heads cells unused free f, ap length (list_step cells unused cell some f.sound.rest).list)

-- the same number of heads and cells is as right as before
module _ (heads heads' : List (Option ℕ)) (cells cells' : List Cell) (unused unused' : Option ℕ) (free free' : ℕ) (f : IsChainStore heads cells unused free) (long : length heads' ≡ length heads) (long' : length cells' ≡ length cells) where
  facts_kept : IsWellLinked heads' cells' unused' → free' ≡ length (list_from cells' unused') → AreFalling (chain_versions heads' cells') → IsChainStore heads' cells' unused' free'
  facts_kept sound counted falling =
      record {
        few = omega (arith, f.few);
        small = omega (arith, f.small);
        both = ap (λ (n : ℕ). eqb n 0) long ∙ f.both ∙ ap (λ (n : ℕ). eqb n 0) (sym long');
        sound = sound;
        counted = omega (arith, counted, kept_and_unused heads' cells' unused' sound);
        falling = falling;
      }

module _ (heads : List (Option ℕ)) (cells : List Cell) (unused : Option ℕ) (free : ℕ) (f : IsChainStore heads cells unused free) where
  module _ (key stamp value : ℕ) (told : ℕ × ℕ) (ok : Ok told ≡ newest_answer (store_of_chains heads cells) key) (later : told.0 < stamp) where
    known : key < length heads
    known = (newest_ok (store_of_chains heads cells) key told ok).0

    above : (newest (chain_versions heads cells key)).stamp < stamp
    above = omega (arith, ap (λ (p : ℕ × ℕ). p.0) (newest_ok (store_of_chains heads cells) key told ok).1, later)

    -- with no unused cell the add is refused
    pub added_none : unused ≡ None → store_of_chains heads cells ≡ added (store_of_chains heads cells) key stamp value
    added_none none =
        let all = kept_and_unused heads cells unused f.sound in
        let nothing : length (list_from cells unused) ≡ 0 = rw none refl in
        added_refused (store_of_chains heads cells) key stamp value (Full key) (add_full (store_of_chains heads cells) key stamp known above (omega (arith, all, nothing)))

    -- what an add leaves, as the call of push tells it
    pub record IsAdding (heads' : List (Option ℕ)) (cells' : List Cell) (unused' : Option ℕ) : Type 0 where
      pub facts : IsChainStore heads' cells' unused' (free - 1)
      pub answer : Ok tt ≡ add_answer (store_of_chains heads cells) key stamp
      pub after : store_of_chains heads' cells' ≡ added (store_of_chains heads cells) key stamp value

    pub adding : (cell : ℕ) → unused ≡ Some cell → (heads' : List (Option ℕ)) (cells' : List Cell) (unused' : Option ℕ)
        → unused' ≡ (cell_at cells cell).next → heads' ≡ set heads key (Some cell) → cells' ≡ set cells cell (record { stamp = stamp; value = value; next = get_or heads key None })
        → IsAdding heads' cells' unused'
    adding cell some heads' cells' unused' rest head filled =
        let x : Cell = record { stamp = stamp; value = value; next = get_or heads key None } in
        let a = adds heads cells key cell x unused f.sound some known refl in
        let all = kept_and_unused heads cells unused f.sound in
        let fine = add_fine (store_of_chains heads cells) key stamp known above (omega (arith, all, a.spare)) in
        rw (head, filled, rest)
        (record {
          facts = facts_kept heads (set heads key (Some cell)) cells (set cells cell x) unused (cell_at cells cell).next free (free - 1) f (length-set heads key (Some cell)) (length-set cells cell x) a.sound (omega (arith, free_is heads cells unused free f, a.spare)) (added_falls heads cells key cell x unused a above f.falling);
          answer = sym fine;
          after = added_means heads cells key cell x unused a ∙ added_done (store_of_chains heads cells) key stamp value fine;
        })
