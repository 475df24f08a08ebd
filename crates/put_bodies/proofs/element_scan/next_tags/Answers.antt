use Rattle.json.specs.Token.{begin_object, end_object}
use Rattle.json.specs.Lex.{comma, token}
use Rattle.std.proofs.Common.{arith}
use Rattle.put_bodies.specs.TextScans.{lexemes}
use Rattle.put_bodies.proofs.MemberTurns.{marked}
use Rattle.put_bodies.proofs.PairTurns.{pairs_end, pairs_more, pairs_start}
use Rattle.put_bodies.proofs.SpelledValues.{close_brace_is, comma_is, open_brace_is}
use Rattle.put_bodies.proofs.element_scan.next_tags.Goals as goal

pub turns-init : goal.turns-init
turns-init c = record { so_far = pairs_start (lexemes c.in_ok-rest.rest.now) c.clear.new.self.items c.clear.ensures.items; shorter = omega arith }

pub turns-preserved : goal.turns-preserved
turns-preserved c =
    let l = c.turns in
    record {
      so_far = pairs_more (lexemes c.in_ok-rest.rest.now) (lexemes l.rest.now) (lexemes c.in_ok-still.behind.now) (lexemes c.in_ok-mark.behind.now) l.worded c.in_ok-still.still l.words.items c.next_pair.new.words.items l.invariant.so_far c.in_ok-still.ensures.stands
          (marked 44 c.in_ok-mark.mark comma c.in_ok-mark.behind.now (lexemes c.in_ok-still.behind.now) comma_is (omega (arith, c.if-mark-ne44.false)) c.in_ok-mark.ensures.same);
      shorter = omega (arith, c.in_ok-still.ensures.shorter, c.in_ok-mark.ensures.shorter, l.invariant.shorter);
    }

pub returns-then-mark-eq125-clause-stands : goal.returns-then-mark-eq125-clause-stands
returns-then-mark-eq125-clause-stands c =
    let l = c.turns in
    pairs_end (lexemes c.args.text.now) (lexemes c.in_ok-rest.rest.now) (lexemes l.rest.now) (lexemes c.in_ok-still.behind.now) (lexemes c.in_ok-mark.behind.now) l.worded c.in_ok-still.still l.words.items c.next_pair.new.words.items
    (c.in_ok-rest.ensures.lexeme (token begin_object) open_brace_is) l.invariant.so_far c.in_ok-still.ensures.stands
    (marked 125 c.in_ok-mark.mark (token end_object) c.in_ok-mark.behind.now (lexemes c.in_ok-still.behind.now) close_brace_is c.if-mark-eq125.true c.in_ok-mark.ensures.same)
