-- The records of the trials.
use Rattle.std.specs.Prelude.{ℕ, List, if◌then◌else◌, Some, None, Option, ◌==◌, slice_index, slice_set}
use Rattle.ledger.specs.declared.SummaryKind.{SummaryKind}
use Rattle.ledger.specs.declared.SummaryKind.TheVariants.{Sum, Smallest, NonZero}
use Rattle.ledger.specs.declared.Call.{Call}
use Rattle.ledger.specs.declared.Call.TheVariants.{Read, Total}
use Rattle.records.specs.Format.{decoded}

-- the summary that a total's kind asks for; none of any other kind
abbrev pub summary_in : ℕ → Option SummaryKind
summary_in kind =
    if kind == 8 then Some Sum
    else if kind == 9 then Some Smallest
    else if kind == 10 then Some NonZero
    else None

-- the total of the range that a call reads
abbrev pub totalled : SummaryKind → Option Call → Option Call
totalled s (Some (Read h k n)) = Some (Total h k n s)
totalled s _ = None

-- a total's record is that of the read of its range, with another kind; any other is a call file's
abbrev pub decoded_as : Option SummaryKind → List ℕ → Option Call
decoded_as None b = decoded b
decoded_as (Some s) b = totalled s (decoded (slice_set b 0 3))

-- the call that a record asks for; none where it is malformed
abbrev pub trial_decoded : List ℕ → Option Call
trial_decoded b = decoded_as (summary_in (slice_index b 0)) b
