-- What a packed log of versions means.
use Rattle.std.specs.Prelude.{ℕ, ◌<◌, Bool, if◌then◌else◌, ◌&&◌, List, [], ◌∷◌, fold, Result, ◌==◌, nat_lt}
use Rattle.std.specs.List.{All, list_any}
use Rattle.refusals.specs.Results.{result_map}
use Rattle.versions.specs.declared.store.Version.{Version}
use Rattle.stamped.specs.declared.lookup.Moment.{Moment}
use Rattle.stamped.specs.Lookups.{takes}
use Rattle.versions.specs.declared.fault.StoreFault.{StoreFault}
use Rattle.versions.specs.Stores.{Revision, Store, first_by, key_check, pair_of}

-- what a record of a log says of its key
abbrev pub revision_of : Version → Revision
revision_of v = record { stamp = v.stamp; value = v.value }

-- the versions of a key, newest first, with those that one more record of the log brings
abbrev pub versions_with : ℕ → List Revision → Version → List Revision
versions_with k vs v = if v.key == k then (revision_of v ∷ vs) else vs

-- the versions of a key in a log that has them in the order of adding
abbrev pub log_versions : List Version → ℕ → List Revision
log_versions log k = fold (versions_with k) [] log

abbrev pub store_of_log : ℕ → ℕ → List Version → Store
store_of_log keys cells log = record { keys = keys; cells = cells; versions = log_versions log }

-- each version is of a key of the store
abbrev pub AreOfKeys : ℕ → List Version → Type 0
AreOfKeys keys log = All (λ v. v.key < keys) log

-- a later version of the same key has a stamp below the horizon
abbrev pub outdated_by : ℕ → Version → List Version → Bool
outdated_by horizon v later = list_any (λ w. (w.key == v.key) && nat_lt w.stamp horizon) later

-- stamp and value of the newest version of a key that counts at a moment
abbrev pub moment_answer : Store → ℕ → Moment → Result (ℕ × ℕ) StoreFault
moment_answer m k moment = result_map (λ _. pair_of (first_by (takes moment) (m.versions k))) (key_check m.keys k)

-- what a cleared cell holds
abbrev pub cleared_version : Version
cleared_version = record { key = 0; stamp = 0; value = 0 }
