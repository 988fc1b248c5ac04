-- What a run counts, what a tally is once another is added to it, and its text.
use Rattle.std.specs.Prelude.{ℕ, ◌==◌, ◌+◌, ◌-◌, ◌^◌, min, if◌then◌else◌, List, ◌++◌, [], codes, decimal, count_by, nat_eq}
use Rattle.std.specs.Cmp.Lexicographic.{pointwise}
use Rattle.trials.specs.declared.tally.Tally.{Tally}

-- the tally of one run: the lines to expect, each ended by a line feed, and whether it gave others
abbrev pub run_tally : List ℕ → List ℕ → Tally
run_tally expected lines =
    record {
      runs = 1;
      lines = count_by (λ b. b == 10) expected;
      differing = if pointwise nat_eq lines expected then 0 else 1;
    }

-- each number is the sum, or the largest that there is
abbrev pub tally_sum : Tally → Tally → Tally
tally_sum t other =
    record {
      runs = min (t.runs + other.runs) (2 ^ 64 - 1);
      lines = min (t.lines + other.lines) (2 ^ 64 - 1);
      differing = min (t.differing + other.differing) (2 ^ 64 - 1);
    }

-- the word "differ" stands only where a run does
abbrev pub tally_text : Tally → List ℕ
tally_text t =
    decimal t.runs ++ (codes " runs, " ++ (decimal t.lines ++ (codes " lines"
    ++ (if nat_eq t.differing 0 then [] else codes ", " ++ (decimal t.differing ++ codes " runs differ")))))
