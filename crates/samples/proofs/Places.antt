-- A sample is cut where its spelling says.
use Rattle.std.proofs.Common.{◌≡◌, ℕ, suc, ◌<◌, ◌^◌, List, [], ◌∷◌, ◌++◌, refl, arith, codes, Some}
use Rattle.std.proofs.Math.Nat.{mod-le}
use Rattle.std.specs.List.{AllByRecursion}
use Rattle.unicode_ident.proofs.Computing.{unicode_ident}
use Rattle.lexing.specs.Scanning.{class_of, piece_at}
use Rattle.lexing.specs.declared.piece.PieceKind.TheVariants.{Space}
use Rattle.samples.specs.Spelling.{Spelling, end, ◌▹◌, text_of, IsCutThere, AreCutThere}
use Rattle.samples.specs.Rings.{Turn, plain_struct, generic_struct, tagged_enum, turn, name, next}
use Rattle.samples.proofs.Spelled.{sign, space, type_spelling, members_spelling, tagged_body, attribute_spelling, declaration_spelling, sample_spelling}
use Rattle.samples.proofs.Names.{IsFoundName, name_found}

-- a type before `>`
type_cut : (of : Turn) (type : List ℕ) (rest : Spelling) (behind : List ℕ) → IsFoundName type → AreCutThere rest behind
    → AreCutThere (type_spelling of type (sign (codes ">") ▹ rest)) behind
unfolding class_of unicode_ident
type_cut plain_struct type rest behind n h = (n.found 62 _ refl, assumption)
type_cut generic_struct type rest behind n h = (n.found 60 _ refl, assumption)
type_cut tagged_enum type rest behind n h = (n.found 62 _ refl, assumption)

-- what stands in brackets
members_cut : (t of : Turn) (type behind : List ℕ) → IsFoundName type → AreCutThere (members_spelling t of type) (125 ∷ behind)
unfolding class_of unicode_ident
members_cut plain_struct of type behind h =
    let typed = type_cut of type (sign (codes ">") ▹ space ▹ end) (125 ∷ behind) h (refl, (refl, tt)) in assumption typed
members_cut generic_struct of type behind h =
    let typed = type_cut of type (sign (codes ">") ▹ space ▹ end) (125 ∷ behind) h (refl, (refl, tt)) in assumption typed
members_cut tagged_enum of type behind h = let typed = type_cut of type (space ▹ end) (125 ∷ behind) h (refl, tt) in assumption typed

tagged_cut : (of : Turn) (type behind : List ℕ) → IsFoundName type → AreCutThere (tagged_body of type) (125 ∷ behind)
unfolding class_of unicode_ident
tagged_cut of type behind h = let inside = members_cut tagged_enum of type (32 ∷ 125 ∷ behind) h in assumption inside

attribute_cut : (behind : List ℕ) → IsCutThere attribute_spelling behind
unfolding class_of unicode_ident
attribute_cut behind = assumption

-- a new line before the text is a piece of its own
abbrev EndsLine : List ℕ → Type 0
EndsLine text = piece_at (10 ∷ text) ≡ Some (Space, text)

-- a declaration, where its line ends
declaration_cut : (t : Turn) (text : List ℕ) (of : Turn) (type : List ℕ) (rest : Spelling) (behind : List ℕ) → IsFoundName text → IsFoundName type
    → EndsLine (text_of rest ++ behind) → AreCutThere rest behind → AreCutThere (declaration_spelling t text of type rest) behind
unfolding class_of unicode_ident
declaration_cut plain_struct text of type rest behind n m e h = (refl, (n.after_space _ behind, (n.found 32 _ refl, (refl, (members_cut plain_struct of type _ m, (e, h))))))
declaration_cut generic_struct text of type rest behind n m e h =
    (refl, (n.after_space _ behind, (n.found 60 _ refl, (refl, (refl, (refl, (refl, (members_cut generic_struct of type _ m, (e, h)))))))))
declaration_cut tagged_enum text of type rest behind n m e h =
    (refl, (attribute_cut _, (refl, (refl, (n.after_space _ behind, (n.found 32 _ refl, (refl, (tagged_cut of type _ m, (e, h)))))))))

-- a line ends where a declaration begins, and at the end
declaration_on_line : (t : Turn) (text : List ℕ) (of : Turn) (type : List ℕ) (rest : Spelling) (behind : List ℕ)
    → EndsLine (text_of (declaration_spelling t text of type rest) ++ behind)
unfolding class_of unicode_ident
declaration_on_line plain_struct text of type rest behind = refl
declaration_on_line generic_struct text of type rest behind = refl
declaration_on_line tagged_enum text of type rest behind = refl

declarations_on_line : (many : ℕ) (is : List ℕ) → EndsLine (text_of (sample_spelling many is) ++ [])
unfolding class_of unicode_ident
declarations_on_line many [] = refl
declarations_on_line many (i ∷ is) = declaration_on_line (turn i) (name i) (turn (next many i)) (name (next many i)) (sample_spelling many is) []

-- declarations are cut as they are spelled
pub declarations_cut : (many : ℕ) (is : List ℕ) → AllByRecursion (λ i. i < 1000) is → AreCutThere (sample_spelling many is) []
declarations_cut many [] h = tt
declarations_cut many (i ∷ is) h =
    let small : i < 2 ^ 64 = omega (arith, h.0) in
    let next_small : next many i < 2 ^ 64 = omega (arith, h.0, mod-le (suc i) many) in
    let named = name_found i small in
    let typed = name_found (next many i) next_small in
    declaration_cut (turn i) (name i) (turn (next many i)) (name (next many i)) (sample_spelling many is) [] named typed (declarations_on_line many is) (declarations_cut many is h.1)
