use Rattle.std.proofs.Common.{◌≡◌, Ok, Err, sym, subst, ◌∙◌}
use Rattle.std.specs.Prelude.{Result}
use Rattle.row_key.specs.declared.widths.Widths.{Widths}
use Rattle.row_key.specs.declared.keys.RowKey.{RowKey}
use Rattle.row_key.specs.declared.keys.KeyFault.{KeyFault}
use Rattle.row_key.specs.Key.{ReadsAs}
use Rattle.metric_scan.proofs.metric_rows.key_of.Goals as goal

two_answers : (key : RowKey) (fault : KeyFault) → ◌≡◌ {A = Result RowKey KeyFault} (Ok key) (Err fault) → ⊥
two_answers key fault e = cc

pub unreachable-requires : goal.unreachable-requires
unreachable-requires c =
    let read = subst (λ (w : Widths). ReadsAs w c.args.row.now (Ok c.requires.0)) (sym c.widths.ensures) (c.requires.1, c.requires.2) in
    two_answers c.requires.0 c.in-Err.field-0 (c.read_key.ensures.alone (Ok c.requires.0) read ∙ c.in-Err.is)

pub returns : goal.returns
returns c =
    let read = subst (λ (w : Widths). ReadsAs w c.args.row.now (Ok c.in-Ok.key)) c.widths.ensures c.in-Ok.ensures.reads in
    record { is_key = read.0; row = read.1 }
