-- Names at places, ends of tuples and arguments, by what the program's lists are.
use Rattle.std.proofs.Common.{◌≡◌, ◌≢◌, ℕ, zero, suc, ◌<◌, ◌≤◌, List, [], ◌∷◌, ◌++◌, length, map, get_or, codes, false, ◌==◌, refl, ap, sym, arith, append_assoc}
use Rattle.std.proofs.lemmas.Bool.{false≢true}
use Rattle.open_types.specs.declared.open_type.OpenType.{OpenType}
use Rattle.open_types.specs.Open.{opens_view}
use Rattle.written_types.specs.declared.written.Ident.{Ident}
use Rattle.scopes.specs.Texts.{name_at, applied_to, tuple_end}

-- the name of an item that is there
pub name_at-item : {A : Type 0} (f : A → Ident) (items : List A) (i : ℕ) (x : A) → i < length items → x ≡ get_or items i x → name_at (map f items) i ≡ (f x).text
name_at-item f [] i x h is = absurd (omega arith)
name_at-item f (y ∷ items) zero x h is = ap (λ z. (f z).text) (sym is)
name_at-item f (y ∷ items) (suc i) x h is = name_at-item f items i x (omega arith) is

-- past the end there is no name
pub name_at-end : {A : Type 0} (f : A → Ident) (items : List A) (i : ℕ) → length items ≤ i → name_at (map f items) i ≡ []
name_at-end f [] i h = refl
name_at-end f (y ∷ items) zero h = absurd (omega arith)
name_at-end f (y ∷ items) (suc i) h = name_at-end f items i (omega arith)

pub one_end : (ts : List OpenType) → length ts ≡ 1 → tuple_end (opens_view ts) ≡ codes ",)"
one_end [] h = absurd (omega arith)
one_end (t ∷ []) h = refl
one_end (t ∷ u ∷ ts) h = absurd (omega arith)

pub other_end : (ts : List OpenType) → length ts ≢ 1 → tuple_end (opens_view ts) ≡ codes ")"
other_end [] h = refl
other_end (t ∷ []) h = absurd (h refl)
other_end (t ∷ u ∷ ts) h = refl

pub applied_some : (text : List ℕ) (ts : List OpenType) (arguments : List ℕ) → false ≡ (length ts == 0) → ((text ++ codes "<") ++ arguments) ++ codes ">" ≡ applied_to text (opens_view ts) arguments
applied_some text [] arguments h = absurd (false≢true h)
applied_some text (t ∷ ts) arguments h = simp append_assoc
