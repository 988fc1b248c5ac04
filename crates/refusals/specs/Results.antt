-- What becomes of an answer that may be a refusal.
use Rattle.std.specs.Prelude.{Result}
use Rattle.std.specs.Result.{result_map_both}

-- f of what was answered; a refusal stays
abbrev pub result_map : {T U E : Type 0} → (T → U) → Result T E → Result U E
result_map f r = result_map_both f (λ e. e) r

-- f of the refusal; what was answered stays
abbrev pub result_map_err : {T E D : Type 0} → (E → D) → Result T E → Result T D
result_map_err f r = result_map_both (λ x. x) f r
