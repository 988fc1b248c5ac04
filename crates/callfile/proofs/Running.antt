-- How far a run has come.
use Rattle.std.proofs.Common.{◌≡◌, ℕ, ◌+◌, ◌*◌, ◌-◌, ◌^◌, ◌<◌, ◌≤◌, true, false, ◌==◌, List, [], ◌∷◌, ◌++◌, length, take, Some, None, Option, IfSome, OnErr, MatchResult, Result, Ok, Err, refl, sym, ap, ◌∙◌, subst, ⊎_elim, append_assoc, append-nil, arith, length-append, length-take-le, lit<, true≢false, eq-eqb, codes}
use Rattle.std.proofs.lemmas.Bool.{cases_eq, eqb-true}
use Rattle.std.specs.List.{AllByRecursion, concat}
use Rattle.std.specs.Io.{StartsWith}
use Rattle.std.specs.Io.KnownBytes.{Keeps, Appends, Consumes, IsAtEnd}
use Rattle.std.proofs.KnownBytes.{Appends-nil, Appends-trans, Appends-kept, Consumes-nil, Consumes-trans, Consumes-whole}
use Rattle.std.proofs.lemmas.Result.{MatchResult-weaker}
use Rattle.std.proofs.Math.Seq.{take-append-add, take-append_seam, take-length}
use Rattle.std.proofs.lemmas.List.Folds.{concat-append}
use Rattle.ledger.specs.declared.Call.{Call}
use Rattle.ledger.specs.Ledger.{Ledger}
use Rattle.versions.specs.Stores.{Store}
use Rattle.validation.specs.Stamps.{Stamps}
use Rattle.engine.specs.declared.engine.Engine.{Engine}
use Rattle.engine.specs.Parts.{FitsEngine}
use Rattle.callfile.specs.Files.{records_of, answer_from, record_answer}
use Rattle.callfile.specs.Runs.{Answers, AnswersFile, AppendsLines, AppendsSome, AppendsSomeLines, AreFirst, ConsumesSome, Breaks, Stops, HasResult}
use Rattle.callfile.specs.Steps.{Advances, GoesThrough, GrowsByLines, HandsOver}
use Rattle.callfile.proofs.Pieces.{IsFull, records_of-full, records_of-part, records_of-whole}
use Rattle.callfile.proofs.Answering.{answers_of_both, answers_no_record, answers_join}
use Rattle.answer_lines.specs.declared.LineFault.{LineFault}
use Rattle.ledger.specs.declared.Done.{Done}
use Rattle.callfile.specs.Lines.{line_text}

-- full records at the front of a file
records_of-behind : (rs : List (List ℕ)) (bytes : List ℕ) → AllByRecursion IsFull rs → records_of (concat rs ++ bytes) ≡ rs ++ records_of bytes
records_of-behind [] bytes full = refl
records_of-behind (q ∷ qs) bytes full = ap records_of (append_assoc q (concat qs) bytes) ∙ records_of-full q (concat qs ++ bytes) full.0 ∙ ap (λ l. q ∷ l) (records_of-behind qs bytes full.1)

full_push : (rs : List (List ℕ)) (r : List ℕ) → AllByRecursion IsFull rs → IsFull r → AllByRecursion IsFull (rs ++ (r ∷ []))
full_push [] r full whole = (whole, tt)
full_push (q ∷ qs) r full whole = (full.0, full_push qs r full.1 whole)

concat-push : (rs : List (List ℕ)) (r : List ℕ) → concat (rs ++ (r ∷ [])) ≡ concat rs ++ r
concat-push rs r = concat-append rs (r ∷ []) ∙ ap (λ l. concat rs ++ l) (append-nil r)

length-concat : (rs : List (List ℕ)) → AllByRecursion IsFull rs → length (concat rs) ≡ 20 * length rs
length-concat [] full = refl
length-concat (q ∷ qs) full = length-append q (concat qs) ∙ (let more = length-concat qs full.1 in let one : length q ≡ 20 = full.0 in omega (arith, more, one))

-- the first so many of a list
take-behind : {X : Type 0} (xs ys bs : List X) → take (length bs) ys ≡ bs → take (length (xs ++ bs)) (xs ++ ys) ≡ xs ++ bs
take-behind xs ys bs h = ap (λ n. take n (xs ++ ys)) (length-append xs bs) ∙ take-append-add xs ys (length bs) ∙ ap (λ l. xs ++ l) h

-- the first of the records of what is left stand behind those of what was taken
first_behind : (rs qs : List (List ℕ)) (a b : Option (List ℕ)) → AllByRecursion IsFull rs → Consumes a b (concat rs)
    → AreFirst qs b → AreFirst (rs ++ qs) a
first_behind rs qs None b full c h = tt
first_behind rs qs (Some xs) None full c h = absurd c
first_behind rs qs (Some xs) (Some ys) full c h =
    ap (λ l. take (length (rs ++ qs)) l) (ap records_of c ∙ records_of-behind rs ys full) ∙ take-behind rs (records_of ys) qs h

-- one record was taken, and is whole, or else nothing is left
first_taken : (bytes : List ℕ) (a b : Option (List ℕ)) → 0 < length bytes → length bytes ≤ 20 → (length bytes < 20 → IsAtEnd b) → Consumes a b bytes
    → AreFirst (bytes ∷ []) a
first_taken bytes None b some most end c = tt
first_taken bytes (Some xs) None some most end c = absurd c
first_taken bytes (Some xs) (Some ys) some most end c = ap (λ l. take 1 (records_of l)) c ∙ ⊎_elim
    (λ (whole : length bytes ≡ 20). ap (take 1) (records_of-full bytes ys whole))
    (λ (part : length bytes ≡ 20 → ⊥). ap (λ l. take 1 (records_of l)) (ap (λ l. bytes ++ l) (end (omega arith)) ∙ append-nil bytes) ∙ ap (take 1) (records_of-part bytes some most))
    (cases_eq (length bytes) 20)

-- all of it was taken
end_first : (r : List ℕ) (a b : Option (List ℕ)) → Consumes a b r → IsAtEnd b → AreFirst (records_of r) a
end_first r a b c e = Consumes-whole a b r (λ xs. take (length (records_of r)) (records_of xs) ≡ records_of r) c e (take-length (records_of r))

-- nothing of it was answered
first_none : (a : Option (List ℕ)) → AreFirst [] a
first_none None = tt
first_none (Some xs) = refl

-- what holds anyway holds at an error
pub on_err : {T E P : Type 0} (r : Result T E) → P → OnErr r P
on_err (Ok x) h = tt
on_err (Err e) h = h

module _ {S V : Type 0} (d : List ℕ → Option Call) (m : S → Store) (p : V → Stamps) where
  -- A record's line

  -- a text grew by it
  pub line_held : (e e' : Engine S V) (n : ℕ) (r : List ℕ) (b b' : List ℕ) (res : Result Done LineFault) (text text' : List ℕ) → HasResult d m p e n r b res → Answers d m p e e' n (r ∷ []) b b'
      → text' ≡ text ++ (line_text n res b' ++ codes "\n") → GrowsByLines d m p e n (r ∷ []) b text text'
  line_held e e' n r b b' res text text' result answers is l f =
      is ∙ ap (λ x. text ++ x) (ap (λ x. line_text n x b' ++ codes "\n") (result l f) ∙ ap (λ x. line_text n (record_answer n l b (d r)).result x ++ codes "\n") (answers.buffer l f))

  -- Lines, of which the last may still be held in a text

  -- From e to e' the records rs were answered: a beginning of their lines was written, and the text is the rest.
  pub record IsAnswered (e e' : Engine S V) (rs : List (List ℕ)) (b b' : List ℕ) (old new : Option (List ℕ)) (text : List ℕ) : Type 0 where
    pub answers : Answers d m p e e' 1 rs b b'
    pub written : List ℕ
    appended : Appends old new written
    pub lines : (l : Ledger) → FitsEngine m p l e → (answer_from d 1 l b rs).lines ≡ written ++ text

  -- more records were answered, and the text grew by their lines
  answered_join : (e e' e'' : Engine S V) (k : ℕ) (rs qs : List (List ℕ)) (b b' b'' : List ℕ) (old new : Option (List ℕ)) (text text' : List ℕ) → k ≡ 1 + length rs → IsAnswered e e' rs b b' old new text
      → Answers d m p e' e'' k qs b' b'' → GrowsByLines d m p e' k qs b' text text' → IsAnswered e e'' (rs ++ qs) b b'' old new text'
  answered_join e e' e'' k rs qs b b' b'' old new text text' h one two grown = record {
    answers = answers_join e e' e'' 1 k rs qs b b' b'' h one.answers two;
    written = one.written;
    appended = one.appended;
    lines = λ l f.
        let a = answer_from d 1 l b rs in
        let more = (answer_from d k a.ledger a.buffer qs).lines in
        let same = ap (λ x. (answer_from d k a.ledger x qs).lines) (one.answers.buffer l f) in
        (answers_of_both d rs qs 1 k h l b).2
        ∙ ap (λ ls. ls ++ more) (one.lines l f)
        ∙ append_assoc one.written text more
        ∙ ap (λ ls. one.written ++ ls) (ap (λ ls. text ++ ls) (sym same) ∙ sym (grown a.ledger (one.answers.ledger l f)));
  }

  -- a beginning of the text was written
  answered_handed : (e e' : Engine S V) (rs : List (List ℕ)) (b b' : List ℕ) (old mid new : Option (List ℕ)) (text text' : List ℕ) → IsAnswered e e' rs b b' old mid text → HandsOver text text' mid new → IsAnswered e e' rs b b' old new text'
  answered_handed e e' rs b b' old mid new text text' before handed = record {
    answers = before.answers;
    written = before.written ++ handed.0;
    appended = Appends-trans old mid new _ _ before.appended handed.1;
    lines = λ l f. before.lines l f ∙ ap (λ ls. before.written ++ ls) handed.2 ∙ sym (append_assoc before.written handed.0 text');
  }

  -- so was all of it
  answered_whole : (e e' : Engine S V) (rs : List (List ℕ)) (b b' : List ℕ) (old mid new : Option (List ℕ)) (text : List ℕ) → IsAnswered e e' rs b b' old mid text → Appends mid new text → AppendsLines d m p e 1 rs b old new
  answered_whole e e' rs b b' old mid new text before wrote l f = subst (Appends old new) (sym (before.lines l f)) (Appends-trans old mid new _ _ before.appended wrote)

  -- the text was begun
  answered_begun : (e e' : Engine S V) (rs : List (List ℕ)) (b b' : List ℕ) (old mid new : Option (List ℕ)) (text : List ℕ) → IsAnswered e e' rs b b' old mid text → AppendsSome mid new text → AppendsSomeLines d m p e 1 rs b old new
  answered_begun e e' rs b b' old mid new text before some l f = (
    before.written ++ some.0,
    Appends-trans old mid new _ _ before.appended some.1,
    subst (λ ls. StartsWith ls (before.written ++ some.0)) (sym (before.lines l f)) (take-behind before.written text some.0 some.2),
  )

  -- Many records

  -- the records so far are full, and were answered
  pub record Progress (e e' : Engine S V) (number : ℕ) (b b' : List ℕ) (left left' old new : Option (List ℕ)) (text : List ℕ) : Type 0 where
    pub done : List (List ℕ)
    pub full : AllByRecursion IsFull done
    pub count : number ≡ 1 + length done
    pub taken : Consumes left left' (concat done)
    pub answered : IsAnswered e e' done b b' old new text

  pub no_progress : (e : Engine S V) (b : List ℕ) (left old : Option (List ℕ)) (text : List ℕ) → text ≡ [] → Progress e e 1 b b left left old old text
  no_progress e b left old text none = record {
    done = [];
    full = tt;
    count = refl;
    taken = Consumes-nil left;
    answered = record { answers = answers_no_record e 1 b; written = []; appended = Appends-nil old; lines = λ l f. sym none };
  }

  -- some of the text was written
  pub handed_progress : {e e' : Engine S V} {number : ℕ} {b b' : List ℕ} {left left' old mid new : Option (List ℕ)} {text text' : List ℕ}
      → Progress e e' number b b' left left' old mid text → HandsOver text text' mid new → Progress e e' number b b' left left' old new text'
  handed_progress {e} {e'} {b} {b'} {old} {mid} {new} {text} {text'} before handed = record {
    done = before.done;
    full = before.full;
    count = before.count;
    taken = before.taken;
    answered = answered_handed e e' before.done b b' old mid new text text' before.answered handed;
  }

  -- a full record more
  pub more_progress : {e e' e'' : Engine S V} {number : ℕ} {b b' b'' : List ℕ} {left left' left'' old new : Option (List ℕ)} {text text' : List ℕ}
      → Progress e e' number b b' left left' old new text → Advances d m p e' e'' number b' b'' left' left'' text text' true → Progress e e'' (number + 1) b b'' left left'' old new text'
  more_progress {e} {e'} {e''} {number} {b} {b'} {b''} {left} {left'} {left''} {old} {new} {text} {text'} before next =
      let rs = before.done in
      let r = next.bytes in
      let full : length r ≡ 20 = next.whole refl in
      let one : records_of r ≡ r ∷ [] = records_of-part r (omega (arith, full)) (omega (arith, full)) in
      let answers = subst (λ qs. Answers d m p e' e'' number qs b' b'') one next.answers in
      let lines = subst (λ qs. GrowsByLines d m p e' number qs b' text text') one next.lines in
      record {
        done = rs ++ (r ∷ []);
        full = full_push rs r before.full full;
        count = ap (λ n. n + 1) before.count ∙ (let e = length-append rs (r ∷ []) in omega (arith, e));
        taken = subst (Consumes left left'') (sym (concat-push rs r)) (Consumes-trans left left' left'' _ _ before.taken next.taken);
        answered = answered_join e e' e'' number rs (r ∷ []) b b' b'' old new text text' before.count before.answered answers lines;
      }

  -- an error behind the records so far, with some of the text written
  pub stops_handing : {e e' : Engine S V} {number : ℕ} {b b' : List ℕ} {left left' old mid new : Option (List ℕ)} {text : List ℕ} → Progress e e' number b b' left left' old mid text → AppendsSome mid new text → Stops d m p e e' 1 b b' left left' old new
  stops_handing {e} {e'} {b} {b'} {left} {left'} {old} {mid} {new} {text} before some =
      let rs = before.done in record {
        breaks = record {
          done = rs;
          first = subst (λ qs. AreFirst qs left) (append-nil rs) (first_behind rs [] left left' before.full before.taken (first_none left'));
          taken = (concat rs, before.taken);
          answers = before.answered.answers;
        };
        lines = answered_begun e e' rs b b' old mid new text before.answered some;
      }

  -- an error before anything was read or written
  pub stops_at_once : (e : Engine S V) (b : List ℕ) (left old : Option (List ℕ)) → Stops d m p e e 1 b b left left old old
  stops_at_once e b left old = stops_handing (no_progress e b left old [] refl) ([], Appends-nil old, refl)

  -- an error behind more records
  pub stops_behind : {e e' e'' : Engine S V} {number : ℕ} {b b' b'' : List ℕ} {left left' left'' old new : Option (List ℕ)} {text : List ℕ} → Progress e e' number b b' left left' old new text → Breaks d m p e' e'' number b' b'' left' left'' → Stops d m p e e'' 1 b b'' left left'' old new
  stops_behind {e} {e'} {e''} {number} {b} {b'} {b''} {left} {left'} {left''} {old} {new} {text} before stop =
      let rs = before.done in
      let done = before.answered in record {
        breaks = record {
          done = rs ++ stop.done;
          first = first_behind rs stop.done left left' before.full before.taken stop.first;
          taken = (concat rs ++ stop.taken.0, Consumes-trans left left' left'' _ _ before.taken stop.taken.1);
          answers = answers_join e e' e'' 1 number rs stop.done b b' b'' before.count done.answers stop.answers;
        };
        lines = λ l f.
            let a = answer_from d 1 l b rs in
            let more = (answer_from d number a.ledger a.buffer stop.done).lines in
            let all = (answers_of_both d rs stop.done 1 number before.count l b).2 ∙ ap (λ ls. ls ++ more) (done.lines l f) ∙ append_assoc done.written text more in
            (done.written, done.appended, subst (λ ls. StartsWith ls done.written) (sym all) (take-append_seam done.written (text ++ more)));
      }

  -- The end

  -- the records are over; the text holds what was not yet written of their lines
  pub record IsFinished (e e' : Engine S V) (b b' : List ℕ) (left left' old new : Option (List ℕ)) (text : List ℕ) : Type 0 where
    pub bytes : List ℕ
    pub taken : Consumes left left' bytes
    pub all : length bytes < 2 ^ 64 → IsAtEnd left'
    pub first : AreFirst (records_of bytes) left
    pub answered : IsAnswered e e' (records_of bytes) b b' old new text

  -- the last record, or none
  pub last_progress : {e e' e'' : Engine S V} {number : ℕ} {b b' b'' : List ℕ} {left left' left'' old new : Option (List ℕ)} {text text' : List ℕ}
      → Progress e e' number b b' left left' old new text → Advances d m p e' e'' number b' b'' left' left'' text text' false → IsFinished e e'' b b'' left left'' old new text'
  last_progress {e} {e'} {e''} {number} {b} {b'} {b''} {left} {left'} {left''} {old} {new} {text} {text'} before next =
      let rs = before.done in
      let r = next.bytes in
      let all : rs ++ records_of r ≡ records_of (concat rs ++ r) = sym (records_of-behind rs r before.full) in
      record {
        bytes = concat rs ++ r;
        taken = Consumes-trans left left' left'' _ _ before.taken next.taken;
        all = λ _. (next.short refl).1;
        first = subst (λ qs. AreFirst qs left) all (first_behind rs (records_of r) left left' before.full before.taken (end_first r left' left'' next.taken (next.short refl).1));
        answered = subst (λ qs. IsAnswered e e'' qs b b'' old new text') all (answered_join e e' e'' number rs (records_of r) b b' b'' old new text text' before.count before.answered next.answers next.lines);
      }

  -- the numbers are worn out
  pub worn_out : {e e' : Engine S V} {number : ℕ} {b b' : List ℕ} {left left' old new : Option (List ℕ)} {text : List ℕ} → 2 ^ 64 - 1 ≤ number
      → Progress e e' number b b' left left' old new text → IsFinished e e' b b' left left' old new text
  worn_out {e} {e'} {number} {b} {b'} {left} {left'} {old} {new} {text} worn before =
      let rs = before.done in
      let all : rs ≡ records_of (concat rs) = sym (records_of-whole rs before.full) in
      let long = length-concat rs before.full in
      record {
        bytes = concat rs;
        taken = before.taken;
        first = subst (λ qs. AreFirst qs left) (append-nil rs ∙ all) (first_behind rs [] left left' before.full before.taken (first_none left'));
        all = λ few. absurd (omega (arith, long, few, worn, before.count));
        answered = subst (λ qs. IsAnswered e e' qs b b' old new text) all before.answered;
      }

  -- the text was written, or begun
  pub finished_written : {e e' : Engine S V} {b b' : List ℕ} {left left' old mid : Option (List ℕ)} {text : List ℕ} {T E : Type 0} (new : Option (List ℕ)) (result : Result T E) → IsFinished e e' b b' left left' old mid text
      → MatchResult result (λ _. Appends mid new text) (λ _. AppendsSome mid new text)
      → MatchResult result (λ _. GoesThrough d m p e e' b b' left left' old new) (λ _. Stops d m p e e' 1 b b' left left' old new)
  finished_written {e} {e'} {b} {b'} {left} {left'} {old} {mid} {text} new result finished wrote =
      let rs = records_of finished.bytes in
      let done = finished.answered in MatchResult-weaker result wrote
      (λ _ all. record {
        bytes = finished.bytes;
        taken = finished.taken;
        all = finished.all;
        first = finished.first;
        file = record { answers = done.answers; lines = answered_whole e e' rs b b' old mid new text done all };
      })
      (λ _ some. record { breaks = record { done = rs; first = finished.first; taken = (finished.bytes, finished.taken); answers = done.answers }; lines = answered_begun e e' rs b b' old mid new text done some })

  -- One record

  -- nothing is left
  pub advances_none : (e : Engine S V) (n : ℕ) (b : List ℕ) (left left' : Option (List ℕ)) (text : List ℕ) → Consumes left left' [] → IsAtEnd left' → Advances d m p e e n b b left left' text text false
  advances_none e n b left left' text taken end = record {
    bytes = [];
    taken = taken;
    whole = λ h. absurd (true≢false (sym h));
    short = λ _. (lit< tt, end);
    answers = answers_no_record e n b;
    lines = λ l f. sym (append-nil text);
  }

  -- a record was answered
  pub advances : (e e' : Engine S V) (n : ℕ) (b b' : List ℕ) (left left' : Option (List ℕ)) (text text' : List ℕ) (count : ℕ) (xs : List ℕ) → length xs ≡ 20 → count ≤ length xs → (count ≡ 0 → ⊥) → Consumes left left' (take count xs)
      → (count < length xs → IsAtEnd left') → Answers d m p e e' n (take count xs ∷ []) b b' → GrowsByLines d m p e n (take count xs ∷ []) b text text' → Advances d m p e e' n b b' left left' text text' (count == 20)
  advances e e' n b b' left left' text text' count xs room within some taken end answers lines =
      let size = length-take-le count xs within in
      let one : take count xs ∷ [] ≡ records_of (take count xs) = sym (records_of-part (take count xs) (omega (arith, size)) (omega (arith, size))) in
      record {
        bytes = take count xs;
        taken = taken;
        whole = λ h. size ∙ eqb-true count 20 h;
        short = λ h.
            let part : count ≡ 20 → ⊥ = λ whole. true≢false (sym (eq-eqb count 20 whole) ∙ h) in
            (omega (arith, size), end (omega arith));
        answers = subst (λ rs. Answers d m p e e' n rs b b') one answers;
        lines = subst (λ rs. GrowsByLines d m p e n rs b text text') one lines;
      }

  -- an error in the line of a record
  pub breaks_in_line : (e e' : Engine S V) (n : ℕ) (b b' : List ℕ) (left left' : Option (List ℕ)) (count : ℕ) (xs : List ℕ) → length xs ≡ 20 → count ≤ length xs → (count ≡ 0 → ⊥) → Consumes left left' (take count xs)
      → (count < length xs → IsAtEnd left') → Answers d m p e e' n (take count xs ∷ []) b b' → Breaks d m p e e' n b b' left left'
  breaks_in_line e e' n b b' left left' count xs room within some taken end answers =
      let size = length-take-le count xs within in
      record {
        done = take count xs ∷ [];
        first = first_taken (take count xs) left left' (omega (arith, size)) (omega (arith, size)) (λ part. end (omega (arith, size))) taken;
        taken = (take count xs, taken);
        answers = answers;
      }

  -- an error before anything was answered
  pub breaks_at_once : (e : Engine S V) (n : ℕ) (b : List ℕ) (left left' : Option (List ℕ)) → ConsumesSome left left' → Breaks d m p e e n b b left left'
  breaks_at_once e n b left left' taken = record { done = []; first = first_none left; taken = taken; answers = answers_no_record e n b }

  -- The whole run

  -- an error once all is answered
  pub stops_at_end : {e e' : Engine S V} {b b' : List ℕ} {left left' old mid : Option (List ℕ)} (new : Option (List ℕ)) → GoesThrough d m p e e' b b' left left' old mid → Keeps mid new → Stops d m p e e' 1 b b' left left' old new
  stops_at_end {e} {e'} {b} {b'} {left} {left'} {old} {mid} new done kept = record {
    breaks = record { done = records_of done.bytes; first = done.first; taken = (done.bytes, done.taken); answers = done.file.answers };
    lines = λ l f. ((answer_from d 1 l b (records_of done.bytes)).lines, Appends-kept old mid new _ (done.file.lines l f) kept, take-length (answer_from d 1 l b (records_of done.bytes)).lines);
  }

  -- what was written has left the buffer
  file_kept : (e e' : Engine S V) (b b' : List ℕ) (old mid new : Option (List ℕ)) (bytes : List ℕ) → AnswersFile d m p e e' b b' old mid bytes → Keeps mid new → AnswersFile d m p e e' b b' old new bytes
  file_kept e e' b b' old mid new bytes file kept = record { answers = file.answers; lines = λ l f. Appends-kept old mid new _ (file.lines l f) kept }

  pub known_file : (e e' : Engine S V) (b b' : List ℕ) (left left' old mid new : Option (List ℕ)) → GoesThrough d m p e e' b b' left left' old mid → Keeps mid new
      → IfSome left (λ bytes. length bytes < 2 ^ 64 → AnswersFile d m p e e' b b' old new bytes)
  known_file e e' b b' None left' old mid new done kept = tt
  known_file e e' b b' (Some xs) None old mid new done kept = absurd done.taken
  known_file e e' b b' (Some xs) (Some ys) old mid new done kept = λ few.
      let long = ap length done.taken ∙ length-append done.bytes ys in
      let none : ys ≡ [] = done.all (omega (arith, long, few)) in
      let all : done.bytes ≡ xs = sym (done.taken ∙ ap (λ l. done.bytes ++ l) none ∙ append-nil done.bytes) in
      subst (AnswersFile d m p e e' b b' old new) all (file_kept e e' b b' old mid new done.bytes done.file kept)
