use Rattle.std.proofs.Common.{refl, ap, subst}
use Rattle.std.specs.Prelude.{Ok, Err}
use Rattle.tsd_base.specs.Points.{data_point}
use Rattle.point_put.specs.StoredTexts.{stored_at}
use Rattle.point_put.specs.TextPuts.{TextSays}
use Rattle.point_put.specs.declared.fault.TextFault.{TextFault}
use Rattle.point_import.specs.PutPoints.{open_to}
use Rattle.point_import.proofs.AskedPuts.{nothing_put, open_fault, read_put, told_put}
use Rattle.uid_table.specs.NamedRows.{NamedRows}
use Rattle.point_import.proofs.import_point.put_named.Goals as goal

pub returns-in-Ok-clause-says : goal.returns-in-Ok-clause-says
returns-in-Ok-clause-says g c =
    let says = c.in-Ok.ensures.says in
    (stored_at c.in-Ok.stored, read_put c.args.rule.now.patterns c.args.text.now (data_point c.args.point.now) (g.R.Rows.seen c.args.names.now.rows) (g.R.Rows.seen c.put_text.new.names.rows) (g.R.Rows.seen c.keep.new.names.rows) (Ok (stored_at c.in-Ok.stored)) c.requires.reads (ap (λ (u : NamedRows _). g.R.Rows.seen u.rows) c.keep.ensures) says.0 says.1 says.2)

pub returns-in-Err-Unread-clause-says : goal.returns-in-Err-Unread-clause-says
returns-in-Err-Unread-clause-says g c =
    let says = subst (λ (f : TextFault). TextSays (open_to c.args.rule.now.patterns) c.args.text.now (g.R.Rows.seen c.args.names.now.rows) (Err f) (g.R.Rows.seen c.put_text.new.names.rows)) c.in-Err-Unread.field-0-is c.in-Err-Unread.ensures.says in
    nothing_put c.args.rule.now.patterns (data_point c.args.point.now) (g.R.Rows.seen c.args.names.now.rows) (g.R.Rows.seen c.put_text.new.names.rows) says.1

pub exhausted_or-requires : goal.exhausted_or-requires
exhausted_or-requires g c =
    let says = subst (λ (f : TextFault). TextSays (open_to c.args.rule.now.patterns) c.args.text.now (g.R.Rows.seen c.args.names.now.rows) (Err f) (g.R.Rows.seen c.put_text.new.names.rows)) c.in-Err-Unput.field-0-is c.in-Err-Unput.ensures.says in
    let q = says.2.1.since.lives c.requires.possible in
    record { known = open_fault c.args.rule.now.patterns says.0 (g.R.Rows.seen c.args.names.now.rows) (g.R.Rows.seen c.put_text.new.names.rows) c.requires.allows c.in-Err-Unput.fault says.2 q.history q.lawful q.fits }

pub returns-clause-says : goal.returns-clause-says
returns-clause-says g c =
    let says = subst (λ (f : TextFault). TextSays (open_to c.args.rule.now.patterns) c.args.text.now (g.R.Rows.seen c.args.names.now.rows) (Err f) (g.R.Rows.seen c.put_text.new.names.rows)) c.in-Err-Unput.field-0-is c.in-Err-Unput.ensures.says in
    told_put c.args.rule.now.patterns (data_point c.args.point.now) (g.R.Rows.seen c.args.names.now.rows) (g.R.Rows.seen c.put_text.new.names.rows) c.in-Err-Unput.fault c.exhausted_or.result c.exhausted_or.ensures
    (read_put c.args.rule.now.patterns c.args.text.now (data_point c.args.point.now) (g.R.Rows.seen c.args.names.now.rows) (g.R.Rows.seen c.put_text.new.names.rows) (g.R.Rows.seen c.put_text.new.names.rows) (Err c.in-Err-Unput.fault) c.requires.reads refl says.0 says.1 says.2)
