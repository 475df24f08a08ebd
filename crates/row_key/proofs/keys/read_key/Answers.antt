use Rattle.std.proofs.Common.{Err, Ok, rules}
use Rattle.row_key.specs.declared.keys.KeyFault.TheVariants.{Length, NoPairs, ZeroId, BaseNotHour, PairsNotRising}
use Rattle.row_key.specs.Key.{ReadsAs}
use Rattle.row_key.proofs.Once.{alone}
use Rattle.row_key.proofs.keys.read_key.Goals as goal

pub returns-in_default-clause-alone : goal.returns-in_default-clause-alone
returns-in_default-clause-alone c = let r : ReadsAs c.args.widths c.args.row.now (Err Length) = search rules in alone _ _ _ r

pub returns-then-count-eq0-clause-alone : goal.returns-then-count-eq0-clause-alone
returns-then-count-eq0-clause-alone c = let r : ReadsAs c.args.widths c.args.row.now (Err NoPairs) = search rules in alone _ _ _ r

pub returns-then-has_zero_id-clause-alone : goal.returns-then-has_zero_id-clause-alone
returns-then-has_zero_id-clause-alone c = let r : ReadsAs c.args.widths c.args.row.now (Err ZeroId) = search rules in alone _ _ _ r

pub returns-then-key-ne0-clause-alone : goal.returns-then-key-ne0-clause-alone
returns-then-key-ne0-clause-alone c = let r : ReadsAs c.args.widths c.args.row.now (Err BaseNotHour) = search rules in alone _ _ _ r

pub returns-then-not-rises-clause-alone : goal.returns-then-not-rises-clause-alone
returns-then-not-rises-clause-alone c = let r : ReadsAs c.args.widths c.args.row.now (Err PairsNotRising) = search rules in alone _ _ _ r

pub returns-clause-alone : goal.returns-clause-alone
returns-clause-alone c = let r : ReadsAs c.args.widths c.args.row.now (Ok c.parts_of-key.result) = search rules in alone _ _ _ r
