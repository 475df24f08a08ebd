-- The items of a body, one after the other.
use Rattle.std.proofs.Common.{◌≡◌, ℕ, ◌≤◌, List, [], ◌∷◌, ◌++◌, Option, None, Some, IfSome, option_and_then, option_map, refl, sym, ap, subst, ◌∙◌, arith}
use Rattle.json.specs.Token as t
use Rattle.json.specs.Json as json
use Rattle.json.specs.Lex.{Lexeme, token, comma, fresh, punctuate, tokens}
use Rattle.json.specs.Tree as tree
use Rattle.json.proofs.Printed.Trees.{value-json_tokens}
use Rattle.serde_json.specs.Data.{Data, array, item}
use Rattle.serde_json.specs.Read.{of_items, of_json, max_depth, read}
use Rattle.serde_json.specs.View.{items_of}
use Rattle.put_bodies.specs.BodyLines.{AreLinesOf, HasLines}
use Rattle.put_bodies.specs.ElementLines.{IsLineOf}
use Rattle.put_bodies.specs.ElementParts.{ElementStands, IsRead}
use Rattle.put_bodies.specs.TextScans.{ItemsAt, ValueAt, lexemes}
use Rattle.put_bodies.proofs.LineTexts.{one_more_line}
use Rattle.put_bodies.proofs.SpelledValues.{array_at, last_item, more_items}

-- a value with data
abbrev pub Known : Type 0
Known = (j : json.Json) × IsRead 2 j

abbrev pub items_front : List Known → json.Items → json.Items
items_front [] js = js
items_front (k ∷ front) js = json.item k.0 (items_front front js)

items_front_more : (front : List Known) (k : Known) (js : json.Items) → items_front front (json.item k.0 js) ≡ items_front (front ++ k ∷ []) js
items_front_more [] k js = refl
items_front_more (n ∷ front) k js = ap (json.item n.0) (items_front_more front k js)

abbrev pub data_of : List Known → List Data
data_of [] = []
data_of (k ∷ front) = k.1.d ∷ data_of front

data_of-more : (front : List Known) (k : Known) → data_of (front ++ k ∷ []) ≡ data_of front ++ k.1.d ∷ []
data_of-more [] k = refl
data_of-more (n ∷ front) k = ap (λ (ds : List Data). n.1.d ∷ ds) (data_of-more front k)

items_have : (front : List Known) → of_items (items_front front json.no_items) ≡ Some (items_of (data_of front))
items_have [] = refl
items_have (k ∷ front) = ap (option_and_then (λ d. option_map (item d) (of_items (items_front front json.no_items)))) k.1.reads ∙ ap (option_map (item k.1.d)) (items_have front)

items_shallow : (front : List Known) → tree.items_depth (items_front front json.no_items) ≤ 2
items_shallow [] = omega arith
items_shallow (k ∷ front) = omega (arith, k.1.shallow, items_shallow front)

-- items were read, and the lexemes go on with others
pub record ItemsRead (start now : List Lexeme) (lines : List (List ℕ)) : Type 0 where
  pub front : List Known
  pub goes : (js : json.Items) (rest : List Lexeme) → ItemsAt js now rest → ItemsAt (items_front front js) start rest
  pub are : AreLinesOf lines (data_of front)

pub items_begin : (ls : List Lexeme) (lines : List (List ℕ)) → lines ≡ [] → ItemsRead ls ls lines
items_begin ls lines none = record { front = []; goes = λ js rest at. at; are = subst (λ (l : List (List ℕ)). AreLinesOf l []) (sym none) tt }

with_line : (front : List Known) (lines more : List (List ℕ)) (line : List ℕ) (k : Known) → AreLinesOf lines (data_of front) → IsLineOf line k.1.d → more ≡ lines ++ line ∷ [] → AreLinesOf more (data_of (front ++ k ∷ []))
with_line front lines more line k are of is =
    subst (λ (ds : List Data). AreLinesOf more ds) (sym (data_of-more front k)) (subst (λ (l : List (List ℕ)). AreLinesOf l (data_of front ++ k.1.d ∷ [])) (sym is) (one_more_line lines (data_of front) line k.1.d are of))

pub items_go_on : (start now rest later : List Lexeme) (lines more : List (List ℕ)) (line : List ℕ) → ItemsRead start now lines → ElementStands now line rest → more ≡ lines ++ line ∷ [] → rest ≡ comma ∷ later → ItemsRead start later more
items_go_on start now rest later lines more line so e push is =
    let k : Known = (e.j, e.read) in
    record {
      front = so.front ++ k ∷ [];
      goes = λ js end at. subst (λ (x : json.Items). ItemsAt x start end) (items_front_more so.front k js) (so.goes (json.item e.j js) end (more_items e.j js now later end (subst (ValueAt e.j now) is e.at) at));
      are = with_line so.front lines more line k so.are e.of push;
    }

tokens_whole : (text : List ℕ) (js : json.Items) (rest : List Lexeme) → ValueAt (json.array js) (lexemes text) rest → rest ≡ [] → tokens text ≡ tree.json_tokens (json.array js) ++ []
unfolding punctuate
tokens_whole text js rest at none = let whole = subst (ValueAt (json.array js) (lexemes text)) none at in whole refl fresh refl

whole_read : (text : List ℕ) (front : List Known) → tokens text ≡ tree.json_tokens (json.array (items_front front json.no_items)) ++ [] → read text ≡ Some (array (items_of (data_of front)))
whole_read text front is =
    let j = json.array (items_front front json.no_items) in
    ap (λ ts. option_and_then of_json (option_and_then (λ p. json.if_last p.0 p.1) (json.value max_depth ts))) is
    ∙ ap (λ o. option_and_then of_json (option_and_then (λ p. json.if_last p.0 p.1) o)) (value-json_tokens j max_depth [] (omega (arith, items_shallow front)))
    ∙ ap (option_map array) (items_have front)

pub items_close : (text : List ℕ) (start now rest later : List Lexeme) (lines more : List (List ℕ)) (line : List ℕ) → lexemes text ≡ token t.begin_array ∷ start → ItemsRead start now lines → ElementStands now line rest → more ≡ lines ++ line ∷ []
    → rest ≡ token t.end_array ∷ later → later ≡ [] → HasLines text more
items_close text start now rest later lines more line opens so e push is none =
    let k : Known = (e.j, e.read) in
    let front = so.front ++ k ∷ [] in
    let all : ItemsAt (items_front front json.no_items) start later = subst (λ (x : json.Items). ItemsAt x start later) (items_front_more so.front k json.no_items) (so.goes (json.item e.j json.no_items) later (last_item e.j now later (subst (ValueAt e.j now) is e.at))) in
    record {
      elements = data_of front;
      reads = whole_read text front (tokens_whole text (items_front front json.no_items) later (array_at (items_front front json.no_items) (lexemes text) start later opens all) none);
      are = with_line so.front lines more line k so.are e.of push;
    }

pub items_closed : (r : Option (List (List ℕ))) (text : List ℕ) (start now rest later : List Lexeme) (lines more : List (List ℕ)) (line : List ℕ) → lexemes text ≡ token t.begin_array ∷ start → ItemsRead start now lines → ElementStands now line rest → more ≡ lines ++ line ∷ []
    → rest ≡ token t.end_array ∷ later → IfSome r (λ found. (found ≡ more) × (later ≡ [])) → IfSome r (HasLines text)
items_closed None text start now rest later lines more line opens so e push is closed = tt
items_closed (Some found) text start now rest later lines more line opens so e push is (same, none) = subst (HasLines text) (sym same) (items_close text start now rest later lines more line opens so e push is none)
