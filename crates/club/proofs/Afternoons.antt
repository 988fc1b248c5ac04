-- Lines, one by one, and what is told of them.
use Rattle.std.proofs.Common.{◌≡◌, ℕ, ◌+◌, ◌<◌, List, [], ◌∷◌, ◌++◌, length, Some, None, Option, IfSome, refl, sym, ap, ◌∙◌, subst, append_assoc, append-nil, arith, length-append, Result}
use Rattle.std.specs.Io.BufRead.{take_through, drop_through}
use Rattle.std.specs.Str.Lines.{lines}
use Rattle.std.specs.Io.KnownBytes.{Keeps, Appends, IsAtEnd}
use Rattle.std.proofs.KnownBytes.{Appends-nil, Appends-trans, Appends-kept}
use Rattle.versions.specs.Stores.{Store}
use Rattle.validation.specs.Stamps.{Stamps}
use Rattle.engine.specs.declared.engine.Engine.{Engine}
use Rattle.answer_lines.specs.declared.LineFault.{LineFault}
use Rattle.club.specs.declared.desk.Desk.{Desk}
use Rattle.club.specs.declared.said.Recalculation.{Recalculation}
use Rattle.club.specs.declared.said.Said.{Said}
use Rattle.club.specs.Lines.{event_in, text_of}
use Rattle.procedures.specs.Procedures.{pure, ◌>>=◌, Performs}
use Rattle.club.specs.Events.{engine_of, pending_of, answered}
use Rattle.club.specs.Afternoons.{AreAlike, AnswersLines, AnswersOnBoth, AnswersAfternoon, afternoon, said_line, counts_line}
use Rattle.procedures.proofs.Performances.{performs_on, performs_pure}
use Rattle.club.proofs.Agreements.{answered_alike}
use Rattle.club.proofs.TextLines.{lines-first}

-- what holds of whatever value there is
pub if_some : {A : Type 0} (o : Option A) (P : A → Type 0) → ((x : A) → o ≡ Some x → P x) → IfSome o P
if_some None P h = tt
if_some (Some x) P h = h x refl

-- Lines answered on a desk, one after another

-- so far number - 1 lines were answered, done, and this was said: whoever answers more lines has answered all
pub record Continues {S V : Type 0} (m : S → Store) (p : V → Stamps) (d k : Desk S V) (number : ℕ) (done : List (List ℕ)) (said : List ℕ) : Type 0 where
  pub on : (ls : List (List ℕ)) (e : Engine S V) (x : List ℕ × Option Recalculation) → Performs m p (engine_of k) e (afternoon number (pending_of k) ls) x → Performs m p (engine_of d) e (afternoon 1 (pending_of d) (done ++ ls)) (said ++ x.0, x.1)

module _ {S V : Type 0} {m : S → Store} {p : V → Stamps} where
  continues_line : {d k k₁ : Desk S V} {number : ℕ} {done : List (List ℕ)} {said : List ℕ} (line : List ℕ) (r : Result Said LineFault) → Continues m p d k number done said
      → Performs m p (engine_of k) (engine_of k₁) (answered number (pending_of k) (event_in line)) (r, pending_of k₁) → Continues m p d k₁ (number + 1) (done ++ (line ∷ [])) (said ++ said_line number r)
  continues_line {k = k} {k₁} {number} {done} {said} line r before one = record {
    on = λ ls e x h.
        let rest = performs_on (λ a. ◌>>=◌ (afternoon (number + 1) a.1 ls) (λ more. pure (said_line number a.0 ++ more.0, more.1))) one (performs_on (λ more. pure (said_line number r ++ more.0, more.1)) h (performs_pure (said_line number r ++ x.0, x.1))) in
        rw (append_assoc done (line ∷ []) ls, append_assoc said (said_line number r) x.0) (before.on (line ∷ ls) e (said_line number r ++ x.0, x.1) rest);
  }

  continues_all : {d k : Desk S V} {number : ℕ} {done : List (List ℕ)} {said : List ℕ} → Continues m p d k number done said → Performs m p (engine_of d) (engine_of k) (afternoon 1 (pending_of d) done) (said, pending_of k)
  continues_all {k = k} {done = done} {said} before = rw (append-nil done, append-nil said) at (before.on [] (engine_of k) ([], pending_of k) (performs_pure ([], pending_of k)))

-- Lines answered on two desks

module _ {S V S' V' : Type 0} (m : S → Store) (p : V → Stamps) (m' : S' → Store) (p' : V' → Stamps) where
  -- so far number - 1 lines were answered, of what was left at first
  pub record Telling (d k : Desk S V) (d' k' : Desk S' V') (first left old new : Option (List ℕ)) (number apart : ℕ) : Type 0 where
    pub done : List (List ℕ)
    pub count : number ≡ length done + 1
    pub rest : (xs : List ℕ) → first ≡ Some xs → (ys : List ℕ) × (left ≡ Some ys) × (lines xs ≡ done ++ lines ys)
    pub said : List ℕ
    pub other_said : List ℕ
    pub one : Continues m p d k number done said
    pub other : Continues m' p' d' k' number done other_said
    pub alike : AreAlike m p m' p' d d' → AreAlike m p m' p' k k'
    pub agree : AreAlike m p m' p' d d' → apart ≡ 0
    pub written : AreAlike m p m' p' d d' → Appends old new said

  pub told_none : (d : Desk S V) (d' : Desk S' V') (left old : Option (List ℕ)) → Telling d d d' d' left left old old 1 0
  told_none d d' left old = record {
    done = [];
    count = refl;
    rest = λ xs is. (xs, is, refl);
    said = [];
    other_said = [];
    one = record { on = λ ls e x h. h };
    other = record { on = λ ls e x h. h };
    alike = λ a. a;
    agree = λ a. refl;
    written = λ a. Appends-nil old;
  }

  pub told_kept : {d k : Desk S V} {d' k' : Desk S' V'} {first left old new : Option (List ℕ)} {number apart : ℕ} (new' : Option (List ℕ)) → Telling d k d' k' first left old new number apart → Keeps new new' → Telling d k d' k' first left old new' number apart
  told_kept {old = old} {new = new} new' before kept = record {
    done = before.done;
    count = before.count;
    rest = before.rest;
    said = before.said;
    other_said = before.other_said;
    one = before.one;
    other = before.other;
    alike = before.alike;
    agree = before.agree;
    written = λ a. Appends-kept old new new' before.said (before.written a) kept;
  }

  pub told_line : {d k k₁ : Desk S V} {d' k' k₁' : Desk S' V'} {first left left' old mid new : Option (List ℕ)} {number apart : ℕ} (line : List ℕ) (more apart' : ℕ) (before : Telling d k d' k' first left old mid number apart)
      → ((ys : List ℕ) → left ≡ Some ys → (0 < length ys) × (left' ≡ Some (drop_through 10 ys)) × (line ≡ text_of (take_through 10 ys)))
      → AnswersOnBoth m p m' p' k k₁ k' k₁' number (event_in line) mid new more → (apart ≡ 0 → more ≡ 0 → apart' ≡ 0)
      → Telling d k₁ d' k₁' first left' old new (number + 1) apart'
  told_line {d = d} {d' = d'} {old = old} {mid = mid} {new = new} {number = number} line more apart' before came both adds =
      let so = before.done in
      let same = λ (a : AreAlike m p m' p' d d'). answered_alike number (event_in line) (before.alike a) both.one both.other in
      record {
        done = so ++ (line ∷ []);
        count = ap (λ n. n + 1) before.count ∙ (let size = length-append so (line ∷ []) in omega (arith, size));
        rest = λ xs is.
            let left = before.rest xs is in
            let now = came left.0 left.1 in
            let others = lines (drop_through 10 left.0) in
            (drop_through 10 left.0, now.1, left.2 ∙ ap (λ l. so ++ l) (lines-first left.0 now.0 ∙ ap (λ t. t ∷ others) (sym now.2)) ∙ sym (append_assoc so (line ∷ []) others));
        said = before.said ++ said_line number both.said;
        other_said = before.other_said ++ said_line number both.other_said;
        one = continues_line line both.said before.one both.one;
        other = continues_line line both.other_said before.other both.other;
        alike = λ a. (same a).1;
        agree = λ a. adds (before.agree a) (both.agree (same a).0);
        written = λ a. Appends-trans old mid new before.said (said_line number both.said) (before.written a) (both.written (same a).0);
      }

  pub told_all : {d k : Desk S V} {d' k' : Desk S' V'} {first left old new : Option (List ℕ)} {number apart : ℕ} (before : Telling d k d' k' first left old new number apart) → AnswersLines m p m' p' d k d' k' before.done old new apart
  told_all before = record {
    said = before.said;
    other_said = before.other_said;
    one = continues_all before.one;
    other = continues_all before.other;
    alike = before.alike;
    agree = before.agree;
    written = before.written;
  }

  -- no line is left
  pub none_left : {d k : Desk S V} {d' k' : Desk S' V'} {first left old new : Option (List ℕ)} {number apart : ℕ} (before : Telling d k d' k' first left old new number apart) → IsAtEnd left
      → (xs : List ℕ) → first ≡ Some xs → lines xs ≡ before.done
  none_left before end xs is =
      let left = before.rest xs is in
      left.2 ∙ ap (λ l. before.done ++ lines l) (subst IsAtEnd left.1 end) ∙ append-nil before.done

  -- behind what was said the counts were written
  pub tells : {d k : Desk S V} {d' k' : Desk S' V'} {ls : List (List ℕ)} {old mid : Option (List ℕ)} (new : Option (List ℕ)) {new' : Option (List ℕ)} {count apart : ℕ} → count ≡ length ls → AnswersLines m p m' p' d k d' k' ls old mid apart
      → Appends mid new (counts_line count apart) → Keeps new new' → AnswersAfternoon m p m' p' d k d' k' ls old new'
  tells {ls = ls} {mid = mid} new {new' = new'} {apart = apart} size answers wrote kept = record {
    mid = mid;
    apart = apart;
    answers = answers;
    counts = Appends-kept mid new new' (counts_line (length ls) apart) (subst (λ n. Appends mid new (counts_line n apart)) size wrote) kept;
  }

  pub tells_same : {d k : Desk S V} {d' k' : Desk S' V'} {ls ls' : List (List ℕ)} {old new : Option (List ℕ)} → ls' ≡ ls → AnswersAfternoon m p m' p' d k d' k' ls old new → AnswersAfternoon m p m' p' d k d' k' ls' old new
  tells_same {d = d} {k = k} {d' = d'} {k' = k'} {old = old} {new = new} is answers = subst (λ ls. AnswersAfternoon m p m' p' d k d' k' ls old new) (sym is) answers

-- who took some bytes of a text took them from one that has some
pub some_taken : (xs taken : List ℕ) → taken ≡ take_through 10 xs → 0 < length taken → 0 < length xs
some_taken [] taken is h = let none = ap length is in absurd (omega (arith, none, h))
some_taken (x ∷ xs) taken is h = omega arith
