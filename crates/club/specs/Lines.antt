-- The lines of text that tell of a club's afternoon: a word for the event, and its numbers, a space between.
use Rattle.std.specs.Prelude.{ℕ, ◌+◌, ◌-◌, ◌*◌, if◌then◌else◌, ◌&&◌, List, [], ◌∷◌, length, take, Some, None, codes, Option, ◌==◌, nat_le}
use Rattle.std.specs.Io.BufRead.{ends_with_byte}
use Rattle.std.specs.Str.Lines.{strip_carriage_return}
use Rattle.std.specs.Option.{option_map, option_zip}
use Rattle.std.specs.List.{before_first, after_first}
use Rattle.std.specs.Str.{bytes_eq}
use Rattle.club.specs.declared.event.Event.{Event}
use Rattle.club.specs.declared.line.Verb.{Verb}
use Rattle.club.specs.declared.line.Verb.TheVariants.{Card as ToPost, Correct as ToCorrect, Recalculate as ToRecalculate, Finish as ToFinish, List as ToList, Figures as ToFigures, Report as ToReport, Show as ToShow, ShowFigures as ToShowFigures, Close as ToClose, CleanUp as ToClean}
use Rattle.club.specs.declared.event.Event.TheVariants.{Card, Correction, Recalculation, Finish, List as ListNow, Figures, Report, Show, ShowFigures, Close, CleanUp}

-- a line's text: without its line feed, and without a carriage return before that
abbrev pub text_of : List ℕ → List ℕ
text_of l = if ends_with_byte 10 l then strip_carriage_return (take (length l - 1) l) else l

-- what stands before the first space
abbrev pub word : List ℕ → List ℕ
word line = before_first (λ c. c == 32) line

-- what stands behind the first space
abbrev pub behind : List ℕ → List ℕ
behind line = after_first (λ c. c == 32) line

-- the number that more digits make of n, if it is at most the given one
abbrev pub digits_on : ℕ → List ℕ → ℕ → Option ℕ
digits_on n [] most = Some n
digits_on n (c ∷ cs) most =
    if nat_le 48 c && (nat_le c 57 && nat_le (n * 10 + (c - 48)) most) then digits_on (n * 10 + (c - 48)) cs most
    else None

-- a decimal number: at least one digit, and at most the given one
abbrev pub number : List ℕ → ℕ → Option ℕ
number [] most = None
number (c ∷ cs) most = digits_on 0 (c ∷ cs) most

-- a key or a count of 16 bits
abbrev pub short : List ℕ → Option ℕ
short digits = number digits 65535

-- a handle of 32 bits
abbrev pub handle : List ℕ → Option ℕ
handle digits = number digits 4294967295

-- a key, and a value of 64 bits
abbrev pub card : List ℕ → Option (ℕ × ℕ)
card args = option_zip (short (word args)) (number (behind args) 18446744073709551615)

-- the first key of a run of rounds, and their count
abbrev pub round_range : List ℕ → Option (ℕ × ℕ)
round_range args = option_zip (short (word args)) (short (behind args))

-- the handle of a report, and a run of rounds
abbrev pub report_range : List ℕ → Option (ℕ × ℕ × ℕ)
report_range args = option_map (λ r. (r.0, r.1.0, r.1.1)) (option_zip (handle (word args)) (round_range (behind args)))

-- the first key of a run of rounds, their count, and the key of the index
abbrev pub rounds : List ℕ → Option (ℕ × ℕ × ℕ)
rounds args =
    let keys = option_zip (short (word (behind args))) (short (behind (behind args))) in
    option_map (λ r. (r.0, r.1.0, r.1.1)) (option_zip (short (word args)) keys)

abbrev pub verb : List ℕ → Option Verb
verb w =
    if bytes_eq w (codes "card") then Some ToPost
    else if bytes_eq w (codes "correct") then Some ToCorrect
    else if bytes_eq w (codes "recalculate") then Some ToRecalculate
    else if bytes_eq w (codes "finish") then Some ToFinish
    else if bytes_eq w (codes "list") then Some ToList
    else if bytes_eq w (codes "figures") then Some ToFigures
    else if bytes_eq w (codes "report") then Some ToReport
    else if bytes_eq w (codes "show") then Some ToShow
    else if bytes_eq w (codes "show-figures") then Some ToShowFigures
    else if bytes_eq w (codes "close") then Some ToClose
    else if bytes_eq w (codes "clean") then Some ToClean
    else None

-- nothing may follow the word of an event without numbers
abbrev pub plain : Event → List ℕ → Option Event
plain e [] = Some e
plain e (c ∷ cs) = None

-- the event that a verb and the text behind it tell of
abbrev pub event_of : Option Verb → List ℕ → Option Event
event_of None args = None
event_of (Some ToPost) args = option_map (λ c. Card c.0 c.1) (card args)
event_of (Some ToCorrect) args = option_map (λ c. Correction c.0 c.1) (card args)
event_of (Some ToRecalculate) args = option_map (λ r. Recalculation r.0 r.1 r.2) (rounds args)
event_of (Some ToFigures) args = option_map (λ r. Figures r.0 r.1) (round_range args)
event_of (Some ToShow) args = option_map Show (handle args)
event_of (Some ToShowFigures) args = option_map (λ r. ShowFigures r.0 r.1 r.2) (report_range args)
event_of (Some ToClose) args = option_map Close (handle args)
event_of (Some ToFinish) args = plain Finish args
event_of (Some ToList) args = plain ListNow args
event_of (Some ToReport) args = plain Report args
event_of (Some ToClean) args = plain CleanUp args

abbrev pub event_in : List ℕ → Option Event
event_in line = event_of (verb (word line)) (behind line)
