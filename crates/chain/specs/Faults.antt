-- What each refusal of a chain store's set-up says; that of its sizes is carried up whole.
use Rattle.refusals.specs.declared.Report.{Report}
use Rattle.versions.specs.Faults.{first_layer, size_report}
use Rattle.chain.specs.declared.fault.ChainFault.{ChainFault}
use Rattle.chain.specs.declared.fault.ChainFault.TheVariants.{Sizes, Heads}

abbrev pub chain_report : ChainFault → Report
chain_report (Sizes fault) = size_report fault
chain_report (Heads heads) = first_layer 3 heads
