use Rattle.std.proofs.Common.{◌≡◌, ◌+◌, ◌++◌, length, map, take}
use Rattle.http_reply.specs.declared.assign_reply.Element.{Element}
use Rattle.http_api.proofs.answered_names.beside.Given as goal

-- the elements so far have the first texts and the first answers, and as many answers are left as texts
abbrev pub invariant-loop-text : goal.invariant-loop-text
invariant-loop-text l = record {
  texts : map (λ (element : Element). element.text.items) l.elements.items ≡ take l.text-index l.texts;
  answers : map (λ (element : Element). element.answer) l.elements.items ++ l.answers.rest.items ≡ l.fn.answers.items;
  left : length l.answers.rest.items + l.text-index ≡ length l.texts;
  len : l.answers.rest.len ≡ length l.answers.rest.items;
}
