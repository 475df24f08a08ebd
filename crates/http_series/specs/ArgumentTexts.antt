-- What is told of arguments that ask for nothing.
use Rattle.std.specs.Prelude.{ℕ, List, codes}
use Rattle.http_series.specs.declared.argument_fault.ArgumentFault.{ArgumentFault}
use Rattle.http_series.specs.declared.argument_fault.ArgumentFault.TheVariants.{BadLookup, BadLimit, BadTimeseries, BadBackScan, OutOfMemory}

unfoldable pub argument_fault_text : ArgumentFault → List ℕ
argument_fault_text BadLookup = codes "bad lookup"
argument_fault_text BadLimit = codes "bad limit"
argument_fault_text BadTimeseries = codes "bad timeseries"
argument_fault_text BadBackScan = codes "bad back_scan"
argument_fault_text OutOfMemory = codes "out of memory"
