use Rattle.uid_table.proofs.Gathering.{looks_joined}
use Rattle.uid_table.proofs.Searches.{nothing_gathered, suggests}
use Rattle.uid_table.proofs.suggest.suggest_in.Goals as goal

pub returns-in_err-look_through-2-clause-made : goal.returns-in_err-look_through-2-clause-made
returns-in_err-look_through-2-clause-made g c = looks_joined _ _ _ c.in_ok-look_through.ensures.made c.in_err-look_through-2.ensures.made

pub returns-in_err-look_through-3-clause-made : goal.returns-in_err-look_through-3-clause-made
returns-in_err-look_through-3-clause-made g c = looks_joined _ _ _ (looks_joined _ _ _ c.in_ok-look_through.ensures.made c.in_ok-look_through-2.ensures.made) c.in_err-look_through-3.ensures.made

pub returns-in_err-look_through-4-clause-made : goal.returns-in_err-look_through-4-clause-made
returns-in_err-look_through-4-clause-made g c =
    looks_joined _ _ _ (looks_joined _ _ _ (looks_joined _ _ _ c.in_ok-look_through.ensures.made c.in_ok-look_through-2.ensures.made) c.in_ok-look_through-3.ensures.made) c.in_err-look_through-4.ensures.made

pub returns-clause-names : goal.returns-clause-names
returns-clause-names g c =
    let s = g.R.Rows.seen c.args.rows.now in
    suggests _ _ c.args.kind c.args.prefix.now c.args.max _
    (c.in_ok-look_through-4.ensures.gathers s (c.in_ok-look_through-3.ensures.gathers s (c.in_ok-look_through-2.ensures.gathers s (c.in_ok-look_through.ensures.gathers s (nothing_gathered s c.args.kind c.args.prefix.now c.args.max _ c.new-names.ensures.items)))))

pub returns-clause-made : goal.returns-clause-made
returns-clause-made g c =
    looks_joined _ _ _ (looks_joined _ _ _ (looks_joined _ _ _ c.in_ok-look_through.ensures.made c.in_ok-look_through-2.ensures.made) c.in_ok-look_through-3.ensures.made) c.in_ok-look_through-4.ensures.made
