-- Lists of cells, each told by the indices of its cells from a link on.
use Rattle.std.specs.Prelude.{◌≡◌, ℕ, zero, suc, ◌≤◌, Bool, true, false, ◌&&◌, List, [], ◌∷◌, ◌++◌, length, Some, None, Option, ◌==◌, nat_lt, slice_index_or, slice_set}
use Rattle.std.specs.List.{count_by, find}
use Rattle.std.specs.Option.{option_map_or, option_and_then}
use Rattle.versions.specs.Stores.{Revision, base}
use Rattle.versions.specs.declared.store.Version.{Version}
use Rattle.chain.specs.declared.cell.Cell.{Cell}

-- a cleared cell that is linked to a next one
abbrev pub cleared : Option ℕ → Cell
cleared link = record { stamp = 0; value = 0; next = link }

-- a cell with a version in it that is linked to a next one
abbrev pub filled : Version → Option ℕ → Cell
filled v link = record { stamp = v.stamp; value = v.value; next = link }

abbrev pub cell_at : List Cell → ℕ → Cell
cell_at cells i = slice_index_or cells i (cleared None)

-- the indices from a link on, so many of them at most
abbrev pub walk : List Cell → ℕ → Option ℕ → List ℕ
walk cells n None = []
walk cells zero (Some i) = []
walk cells (suc n) (Some i) = i ∷ walk cells n (cell_at cells i).next

-- whether the links from a link on stay inside the cells and end after so many at most
abbrev pub ends_within : List Cell → ℕ → Option ℕ → Bool
ends_within cells n None = true
ends_within cells zero (Some i) = false
ends_within cells (suc n) (Some i) = nat_lt i (length cells) && ends_within cells n (cell_at cells i).next

-- the list of cells from a link on: no list has more cells than there are
abbrev pub list_from : List Cell → Option ℕ → List ℕ
list_from cells link = walk cells (length cells) link

abbrev pub Ends : List Cell → Option ℕ → Type 0
Ends cells link = ends_within cells (length cells) link ≡ true

-- how often an index stands in a list
abbrev pub times : ℕ → List ℕ → ℕ
times i is = count_by (λ j. i == j) is

-- no index stands in the list twice
abbrev pub HasNoRepeat : List ℕ → Type 0
HasNoRepeat is = (i : ℕ) → times i is ≤ 1

-- the version that a cell holds
abbrev pub content_of : Cell → Revision
content_of cell = record { stamp = cell.stamp; value = cell.value }

abbrev pub version_at : List Cell → ℕ → Revision
version_at cells i = content_of (cell_at cells i)

-- the version at a link; the base version at none
abbrev pub version_of : List Cell → Option ℕ → Revision
version_of cells link = option_map_or (version_at cells) link base

-- the first of these cells whose stamp is below a tick
abbrev pub first_below : ℕ → List Cell → List ℕ → Option ℕ
first_below tick cells is = find (λ i. nat_lt (cell_at cells i).stamp tick) is

-- where the list goes on behind a cell
abbrev pub link_behind : List Cell → Option ℕ → Option ℕ
link_behind cells link = option_and_then (λ i. (cell_at cells i).next) link

-- the cells with a list ended at a cell
abbrev pub ended_at : List Cell → Option ℕ → List Cell
ended_at cells link =
    option_map_or (λ i. slice_set cells i (record (cell_at cells i) { next = None })) link cells

-- the cells after these, in turn, were cleared and put in front of the list at a link,
-- and the link to that list
abbrev pub given_back : List Cell → List ℕ → Option ℕ → List Cell × Option ℕ
given_back cells [] unused = (cells, unused)
given_back cells (i ∷ is) unused = given_back (slice_set cells i (cleared unused)) is (Some i)

-- the link to the cell before an index
abbrev pub before : ℕ → Option ℕ
before zero = None
before (suc n) = Some n

-- so many cleared cells, each linked to the one before it
abbrev pub laid : ℕ → List Cell
laid zero = []
laid (suc n) = laid n ++ (cleared (before n) ∷ [])
