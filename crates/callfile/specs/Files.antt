-- The answer to a call file: a line for each of its records, and what its calls leave.
use Rattle.std.specs.Prelude.{ℕ, zero, suc, ◌+◌, List, [], ◌∷◌, ◌++◌, Some, None, Err, codes, Option, Result}
use Rattle.std.specs.List.{onto_first}
use Rattle.refusals.specs.Results.{result_map_err}
use Rattle.ledger.specs.declared.Call.{Call}
use Rattle.ledger.specs.declared.Done.{Done}
use Rattle.ledger.specs.Ledger.{Ledger}
use Rattle.ledger.specs.Calls.{step}
use Rattle.ledger.specs.History.{call_made, Made}
use Rattle.answer_lines.specs.declared.LineFault.{LineFault}
use Rattle.answer_lines.specs.declared.LineFault.TheVariants.{Malformed, Engine}
use Rattle.callfile.specs.Lines.{line_text}

-- Records

-- the bytes cut behind the next n, and then behind every 20
abbrev pub pieces : ℕ → List ℕ → List (List ℕ)
pieces n [] = []
pieces zero (x ∷ xs) = [] ∷ onto_first x (pieces 19 xs)
pieces (suc n) (x ∷ xs) = onto_first x (pieces n xs)

-- the records of a file: 20 bytes each, the last one perhaps shorter
abbrev pub records_of : List ℕ → List (List ℕ)
records_of bytes = pieces 20 bytes

-- Answers

-- what comes of one record: its result, the buffer and the ledger afterwards, and the calls made
pub record RecordAnswer : Type 0 where
  pub result : Result Done LineFault
  pub buffer : List ℕ
  pub ledger : Ledger
  pub calls : List Made

-- record n: a call is the ledger's next step, lent the buffer; a malformed record leaves both alone
abbrev pub record_answer : ℕ → Ledger → List ℕ → Option Call → RecordAnswer
record_answer n l b None = record { result = Err (Malformed n); buffer = b; ledger = l; calls = [] }
record_answer n l b (Some c) =
    let o = step l c b in
    record {
      result = result_map_err Engine o.answer;
      buffer = o.buffer;
      ledger = o.ledger;
      calls = call_made c b o.answer o.buffer ∷ [];
    }

-- what comes of a file: its lines, the buffer and the ledger afterwards, and the calls made, newest first
pub record FileAnswer : Type 0 where
  pub lines : List ℕ
  pub buffer : List ℕ
  pub ledger : Ledger
  pub calls : List Made

-- record n was answered, and then the rest of the file; a line is the text of an answer and a line feed
abbrev pub preceded : ℕ → RecordAnswer → FileAnswer → FileAnswer
preceded n a rest = record {
  lines = line_text n a.result a.buffer ++ (codes "\n" ++ rest.lines);
  buffer = rest.buffer;
  ledger = rest.ledger;
  calls = rest.calls ++ a.calls;
}

-- the records from number n on, each lent the buffer as the one before left it; d says the call that a record asks for
abbrev pub answer_from : (List ℕ → Option Call) → ℕ → Ledger → List ℕ → List (List ℕ) → FileAnswer
answer_from d n l b [] = record { lines = []; buffer = b; ledger = l; calls = [] }
answer_from d n l b (r ∷ rs) =
    let a = record_answer n l b (d r) in
    preceded n a (answer_from d (n + 1) a.ledger a.buffer rs)

-- the answer to a file, from a ledger and a buffer
abbrev pub file_answer : (List ℕ → Option Call) → Ledger → List ℕ → List ℕ → FileAnswer
file_answer d l b bytes = answer_from d 1 l b (records_of bytes)
