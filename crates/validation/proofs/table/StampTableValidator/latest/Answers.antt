use Rattle.std.proofs.Common.{rules, ◌≤◌, length, arith}
use Rattle.std.specs.List.{AllWithin}
use Rattle.std.proofs.lemmas.Grind.{common_steps}
use Rattle.validation.proofs.Tables.{stamp_latest, stamps_latest}
use Rattle.validation.proofs.table.StampTableValidator.latest.Goals as goal

pub returns : goal.returns
returns c =
    let t = c.args.self.now in
    let stamps = t.stamps.now in
    let all : AllWithin (λ s. s ≤ c.unwrap_or.result) stamps 0 (length stamps) = search rules in
    let most = stamp_latest t.keys t.grain t.some stamps t.places in
    stamps_latest t.keys t.grain t.some stamps t.places c.unwrap_or.result all (grind (arith, common_steps, most))
