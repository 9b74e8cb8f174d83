-- Places of names in a list that grows at its end.
use Rattle.std.proofs.Common.{ℕ, zero, suc, ◌+◌, ◌<◌, List, [], ◌∷◌, ◌++◌, Option, Some, None, option_map, Bool, true, false, cond, ◌||◌, bytes_eq, length, take, drop, get_or, map, ◌≡◌, refl, ap, sym, subst, ◌∙◌, arith, ◌⊎◌, inl, inr, IsTrue, append-nil, append_assoc}
use Rattle.std.proofs.lemmas.List.{take_more, map_push}
use Rattle.std.proofs.lemmas.Slice.Eq.{bytes_eq-Decides}
use Rattle.std.proofs.lemmas.Bool.{false≢true, or_right}
use Rattle.std.proofs.lemmas.Option.{none-some}
use Rattle.texts.specs.Names.{is_in, IsDistinct, place_in}
use Rattle.texts.proofs.Laws.{distinct-push, same_place}
use Rattle.written_types.specs.declared.written.Ident.{Ident}
use Rattle.diag.specs.Refusal.{RefusesNone}
use Rattle.scopes.specs.Names.{texts, Repeats, IsGivenTwice}

-- ---- a name that is there

pub is_in-from_place : (k : List ℕ) (ns : List (List ℕ)) (p : ℕ) → place_in k ns ≡ Some p → IsTrue (is_in k ns)
is_in-from_place k [] p e = absurd (none-some p e)
is_in-from_place k (m ∷ ns) p e = by (bytes_eq k m) (place_in k ns) e (is_in-from_place k ns)
  where
    by : (b : Bool) (q : Option ℕ) → cond b (Some 0) (option_map suc q) ≡ Some p → ((r : ℕ) → q ≡ Some r → IsTrue (is_in k ns)) → IsTrue (b || is_in k ns)
    by true q h all = refl
    by false None h all = absurd (none-some p h)
    by false (Some r) h all = all r refl

-- ---- texts

pub texts-push : (xs : List Ident) (x : Ident) → texts (xs ++ x ∷ []) ≡ texts xs ++ x.text ∷ []
texts-push [] x = refl
texts-push (y ∷ xs) x = ap (λ ns. y.text ∷ ns) (texts-push xs x)

-- the texts of one item more
pub texts_grown : {A : Type 0} (f : A → Ident) (items : List A) (at : ℕ) (item : A) → at < length items → item ≡ get_or items at item → texts (map f (take (at + 1) items)) ≡ texts (map f (take at items)) ++ (f item).text ∷ []
texts_grown f items at item lt is =
    ap texts (ap (map f) (take_more items at item lt) ∙ map_push f (take at items) (get_or items at item) ∙ ap (λ y. map f (take at items) ++ f y ∷ []) (sym is))
    ∙ texts-push (map f (take at items)) (f item)

pub length-texts : (xs : List Ident) → length (texts xs) ≡ length xs
length-texts [] = refl
length-texts (x ∷ xs) = ap suc (length-texts xs)

pub map-split : {A B : Type 0} (f : A → B) (xs : List A) (i : ℕ) (d : A) → i < length xs → map f xs ≡ map f (take i xs) ++ f (get_or xs i d) ∷ map f (drop (suc i) xs)
map-split f [] i d l = absurd (omega arith)
map-split f (x ∷ xs) zero d l = refl
map-split f (x ∷ xs) (suc i) d l = ap (λ ys. f x ∷ ys) (map-split f xs i d (omega arith))

-- ---- no name twice

is_in-middle : (x : Ident) (k : List ℕ) (before behind : List Ident) → k ≡ x.text → IsTrue (is_in k (texts (before ++ x ∷ behind)))
is_in-middle x k [] behind e = ap (λ b. b || is_in k (texts behind)) ((bytes_eq-Decides k x.text).1 e)
is_in-middle x k (y ∷ before) behind e = or_right (bytes_eq k y.text) (is_in k (texts (before ++ x ∷ behind))) (is_in-middle x k before behind e)

twice : (x : Ident) (before behind : List Ident) → IsDistinct (texts (before ++ x ∷ behind)) → IsTrue (is_in x.text (texts before)) → ⊥
twice x [] behind d h = false≢true h
twice x (y ∷ before) behind d h = by (bytes_eq x.text y.text) refl h (twice x before behind d.1)
  where
    by : (b : Bool) → bytes_eq x.text y.text ≡ b → IsTrue (b || is_in x.text (texts before)) → (IsTrue (is_in x.text (texts before)) → ⊥) → ⊥
    by true t g rest = false≢true (sym d.0 ∙ is_in-middle x y.text before behind (sym ((bytes_eq-Decides x.text y.text).0 t)))
    by false t g rest = rest g

pub distinct_once : (xs : List Ident) → IsDistinct (texts xs) → RefusesNone (IsGivenTwice xs)
distinct_once xs d e (x, r, is) = twice x r.0 r.1 (subst (λ ys. IsDistinct (texts ys)) r.2 d) r.4

-- ---- the first name that repeats one

one_more : (before : List Ident) (x : Ident) → IsDistinct (texts before) → IsDistinct (texts (before ++ x ∷ [])) ⊎ IsTrue (is_in x.text (texts before))
one_more before x d = by (place_in x.text (texts before)) refl
  where
    by : (o : Option ℕ) → place_in x.text (texts before) ≡ o → IsDistinct (texts (before ++ x ∷ [])) ⊎ IsTrue (is_in x.text (texts before))
    by (Some p) is = inr (is_in-from_place x.text (texts before) p is)
    by None is = inl (subst IsDistinct (sym (texts-push before x)) (distinct-push (texts before) x.text d is))

repeated_behind : (before behind : List Ident) → IsDistinct (texts before) → IsDistinct (texts (before ++ behind)) ⊎ ((x : Ident) × Repeats (before ++ behind) x)
repeated_behind before [] d = inl (subst (λ xs. IsDistinct (texts xs)) (sym (append-nil before)) d)
repeated_behind before (x ∷ behind) d = elim (one_more before x d) [
  | inl distinct ↦ subst (λ xs. IsDistinct (texts xs) ⊎ ((y : Ident) × Repeats xs y)) (append_assoc before (x ∷ []) behind) (repeated_behind (before ++ x ∷ []) behind distinct)
  | inr repeated ↦ inr (x, (before, behind, refl, d, repeated))
]

pub distinct_or_repeated : (xs : List Ident) → IsDistinct (texts xs) ⊎ ((x : Ident) × Repeats xs x)
distinct_or_repeated xs = repeated_behind [] xs tt

pub repeats_once : (xs : List Ident) (x y : Ident) → Repeats xs x → Repeats xs y → x ≡ y
repeats_once xs x y one other =
    (same_place x y one.0 one.1 other.0 other.1 (sym one.2 ∙ other.2)
    (λ between is. twice x one.0 between (subst (λ zs. IsDistinct (texts zs)) is other.3) one.4)
    (λ between is. twice y other.0 between (subst (λ zs. IsDistinct (texts zs)) is one.3) other.4)).1
