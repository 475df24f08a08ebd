use Rattle.row_scan.proofs.Covers.{scan_covers}
use Rattle.row_scan.proofs.laws.scan_covers.Goals as goal

pub returns : goal.returns
returns c = scan_covers
