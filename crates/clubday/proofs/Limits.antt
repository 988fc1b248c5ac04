-- What the stores and the validators of the program mean, and the limits of its engines.
use Rattle.std.proofs.Common.{◌≡◌, ℕ, ◌/◌, List, ◌++◌, length, Option, refl, sym, ap, ◌∙◌, subst}
use Rattle.std.specs.Io.KnownBytes.{Appends}
use Rattle.std.proofs.KnownBytes.{Appends-trans}
use Rattle.ledger.specs.Ledger.{new_ledger}
use Rattle.versions.specs.Stores.{Store, new_store, sizes_check}
use Rattle.chain.specs.Store.{chain_check}
use Rattle.validation.specs.Stamps.{Stamps}
use Rattle.validation.specs.SetUp.{recent_list_check, stamp_table_check, new_stamps}
use Rattle.validation.proofs.Tables.{granule_of_one}
use Rattle.engine.specs.declared.engine.Engine.{Engine}
use Rattle.engine.specs.Fits.{limits_of}
use Rattle.engine.specs.SetUp.{last_of}
use Rattle.engine.specs.Parts.{FitsEngine}
use Rattle.club.specs.declared.desk.Desk.{Desk}
use Rattle.club.specs.Events.{engine_of, pending_of, new_desk}
use Rattle.club.specs.Afternoons.{AreAlike, AnswersAfternoon, afternoon, counts_line}
use Rattle.clubday.specs.Day.{day_limits, day_text}

abbrev pub log : Store
log = new_store (sizes_check 8 9) 8 9

abbrev pub recent : Stamps
recent = new_stamps (recent_list_check 8 8) 8 (λ k. k)

abbrev pub chain : Store
chain = new_store (chain_check 8 8 9) 8 9

abbrev pub stamp_table : Stamps
stamp_table = new_stamps (stamp_table_check 8 1 8) 8 (λ k. k / 1)

pub first_limits : limits_of (last_of 54 log recent) log recent ≡ day_limits
first_limits = refl

pub second_limits : limits_of (last_of 54 chain stamp_table) chain stamp_table ≡ day_limits
second_limits = ap (λ (g : ℕ → ℕ). record { keys = 8; cells = 9; last = 54; granule = g }) granule_of_one

module _ {S V S' V' : Type 0} (m : S → Store) (p : V → Stamps) (m' : S' → Store) (p' : V' → Stamps) where
  -- one new ledger fits both engines, so nothing is told apart
  pub lines_day : (e : Engine S V) (e' : Engine S' V') (d k : Desk S V) (d' k' : Desk S' V') (old new : Option (List ℕ)) → FitsEngine m p (new_ledger day_limits) e → FitsEngine m' p' (new_ledger day_limits) e' → d ≡ new_desk e → d' ≡ new_desk e'
      → (ls : List (List ℕ)) → AnswersAfternoon m p m' p' d k d' k' ls old new → Appends old new (day_text ls)
  lines_day e e' d k d' k' old new one other is too ls tells =
      let l = new_ledger day_limits in
      let alike : AreAlike m p m' p' d d' = record {
        ledger = l;
        first = subst (λ x. FitsEngine m p l (engine_of x)) (sym is) one;
        second = subst (λ x. FitsEngine m' p' l (engine_of x)) (sym too) other;
        pending = ap pending_of is ∙ sym (ap pending_of too);
      } in
      let so = tells.answers in
      let said = ap (λ x. x.0) (so.one.answer l alike.first) ∙ ap (λ w. (afternoon 1 w ls l).answer.0) (ap pending_of is) in
      let all = Appends-trans old tells.mid new so.said (counts_line (length ls) tells.apart) (so.written alike) tells.counts in
      subst (λ s. Appends old new (s ++ counts_line (length ls) 0)) said (subst (λ n. Appends old new (so.said ++ counts_line (length ls) n)) (so.agree alike) all)
