-- Lines that are given as text.
use Rattle.std.proofs.Common.{◌≡◌, ℕ, List, [], ◌∷◌, ◌++◌, refl, sym, ap, ◌∙◌, append_assoc, append-nil}
use Rattle.std.specs.Prelude.{Option}
use Rattle.std.specs.Io.KnownBytes.{Appends}
use Rattle.std.proofs.KnownBytes.{Appends-nil, Appends-trans}
use Rattle.std.proofs.lemmas.Grind.{flat_map-append}
use Rattle.cell_model.specs.declared.row.ListLine.{ListLine}
use Rattle.cell_listing.specs.Grammar.{cells_text, line_text}
use Rattle.listing_print.specs.GivenTexts.{GaveFront, GaveUpTo}
use Rattle.listing_print.specs.LineTaking.{JoinsLines}
use Rattle.listing_print.specs.declared.line_texts.LineTexts.{LineTexts}

-- what waited and these lines' text were given, up to what waits then
abbrev pub TookTexts : List ListLine → Option (List ℕ) × LineTexts → Option (List ℕ) × LineTexts → Type 0
TookTexts lines a b = GaveUpTo a.0 b.0 (a.1.text.items ++ cells_text lines) b.1.text.items

-- a front of them was given
abbrev pub EndedTexts : List ListLine → Option (List ℕ) × LineTexts → Option (List ℕ) × LineTexts → Type 0
EndedTexts lines a b = GaveFront a.0 b.0 (a.1.text.items ++ cells_text lines)

-- the text of lines and more lines
texts_on : (text : List ℕ) (xs ys : List ListLine) → text ++ cells_text (xs ++ ys) ≡ (text ++ cells_text xs) ++ cells_text ys
texts_on text xs ys = ap (λ (t : List ℕ). text ++ t) (flat_map-append (λ (l : ListLine). line_text l ++ 10 ∷ []) xs ys) ∙ sym (append_assoc text (cells_text xs) (cells_text ys))

pub joins_texts : JoinsLines TookTexts EndedTexts
joins_texts = record {
  none = λ a. record { given = []; gives = Appends-nil a.0; waited_is = append-nil a.1.text.items };
  on = λ xs ys a b c f g. record {
    given = f.given ++ g.given;
    gives = Appends-trans a.0 b.0 c.0 f.given g.given f.gives g.gives;
    waited_is = texts_on a.1.text.items xs ys ∙ ap (λ (t : List ℕ). t ++ cells_text ys) f.waited_is ∙ append_assoc f.given b.1.text.items (cells_text ys) ∙ ap (λ (t : List ℕ). f.given ++ t) g.waited_is ∙ sym (append_assoc f.given g.given c.1.text.items);
  };
  stays = λ xs a. record { front = []; gives = Appends-nil a.0; rest = a.1.text.items ++ cells_text xs; text_is = refl };
  ends = λ xs ys a b c f g. record {
    front = f.given ++ g.front;
    gives = Appends-trans a.0 b.0 c.0 f.given g.front f.gives g.gives;
    rest = g.rest;
    text_is = texts_on a.1.text.items xs ys ∙ ap (λ (t : List ℕ). t ++ cells_text ys) f.waited_is ∙ append_assoc f.given b.1.text.items (cells_text ys) ∙ ap (λ (t : List ℕ). f.given ++ t) g.text_is ∙ sym (append_assoc f.given g.front g.rest);
  };
  part = λ xs ys a b f. record {
    front = f.front;
    gives = f.gives;
    rest = f.rest ++ cells_text ys;
    text_is = texts_on a.1.text.items xs ys ∙ ap (λ (t : List ℕ). t ++ cells_text ys) f.text_is ∙ append_assoc f.front f.rest (cells_text ys);
  };
}
