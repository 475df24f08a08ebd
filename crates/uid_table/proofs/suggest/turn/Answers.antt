use Rattle.uid_table.proofs.Gathering.{turned, turn_none, turn_found, restep, one_look, no_look}
use Rattle.uid_table.proofs.suggest.turn.Goals as goal

pub take-requires : goal.take-requires
take-requires g c =
    let step = restep _ _ c.args.from.now c.short-to.result c.args.high _ c.in-Some.found c.short-to.ensures c.in-Some.is c.in_ok-found.ensures.ok in
    (turned _ _ _ _ c.in-Some.found step c.in_ok-found.ensures.possible c.requires.on).is_name

pub returns-in_err-found-clause-made : goal.returns-in_err-found-clause-made
returns-in_err-found-clause-made g c = no_look _ _ c.in_err-found.ensures.err c.in_err-found.ensures.lives

pub returns-in-None-clause-turns : goal.returns-in-None-clause-turns
returns-in-None-clause-turns g c = turn_none _ _ c.args.kind c.args.prefix.now c.args.from.now c.short-to.result c.args.high _ c.args.names.now.items c.short-to.ensures c.in-None.is c.in_ok-found.ensures.ok c.requires.at

pub returns-in-None-clause-made : goal.returns-in-None-clause-made
returns-in-None-clause-made g c = one_look _ _ _ _ _ c.in_ok-found.ensures.ok c.in_ok-found.ensures.possible

pub returns-clause-turns : goal.returns-clause-turns
returns-clause-turns g c =
    let step = restep _ _ c.args.from.now c.short-to.result c.args.high _ c.in-Some.found c.short-to.ensures c.in-Some.is c.in_ok-found.ensures.ok in
    turn_found _ _ c.args.kind c.args.prefix.now c.args.from.now c.args.high c.in-Some.found c.args.names.now.items c.take.new.names.items c.take.result step c.in_ok-found.ensures.possible c.requires.on c.requires.at c.requires.above c.take.ensures

pub returns-clause-made : goal.returns-clause-made
returns-clause-made g c = one_look _ _ _ _ _ c.in_ok-found.ensures.ok c.in_ok-found.ensures.possible
