-- What has a meaning with its arguments has right ones.
use Rattle.std.proofs.Common.{◌≡◌, ℕ, List, [], ◌∷◌, Bool, true, false, not, cond, Option, Some, None, option_and_then, bytes_eq, codes, refl, ap, sym, ◌∙◌, subst, length, eq-eqb}
use Rattle.std.specs.List.{list_all}
use Rattle.std.proofs.lemmas.Option.{none-some, same_Some}
use Rattle.std.proofs.lemmas.Bool.{false≢true, and_parts}
use Rattle.leaves.specs.declared.leaf.Leaf.{Leaf}
use Rattle.leaves.specs.Leaves.{leaf_of}
use Rattle.written_types.specs.Written.{Written, WrittenPath, Segments, Segment, path, reference, tuple, slice, array, trait_object, path_of, no_segments, more_segments, plain, applied}
use Rattle.open_types.specs.declared.open_type.ListHead.{ListHead}
use Rattle.open_types.specs.declared.open_type.ListHead.TheVariants as lists
use Rattle.open_types.specs.Open.{Open, Opens, opens_of}
use Rattle.open_types.specs.Open as types
use Rattle.open_types.specs.Heads.{head_name, containers, container_among}
use Rattle.open_types.specs.declared.head.Head.{Head}
use Rattle.open_types.specs.declared.head.Head.TheVariants as heads
use Rattle.texts.proofs.Laws.{mapped, and_then}
use Rattle.resolving.specs.Known.{Known}
use Rattle.resolving.specs.declared.meaning.Meaning.{Meaning}
use Rattle.resolving.specs.declared.meaning.Meaning.TheVariants as meanings
use Rattle.resolving.specs.Names.{nameless, where_none, is_array, own_or_unknown, declared_or_unknown, parameter_or, other_meaning, leaf_or, container_or, name_meaning, written_meaning, alias_or, ident_of, meaning}
use Rattle.resolving.specs.Resolved.{small_list, list_of, of_one, of_two, contained, alone, first_parameters, own_type, meant, tuple_of, type_of, path_type, last_type, segment_type, argument_types, all_types, is_wrong_item, is_wrong_one, is_no_map, are_wrong_in, are_any, are_wrong}
use Rattle.resolving.proofs.Stands.{Stand, stand-length}
use Rattle.resolving.proofs.Taken.{taken, declared-cases, own-count}
use Rattle.resolving.specs.Bad.{are_bad}
use Rattle.resolving.specs.Free.{declared_with}

-- ---- no name stands for an array

abbrev is_array_type : Open → Bool
is_array_type (types.items lists.Array t) = true
is_array_type _ = false

abbrev is_named : Meaning → Bool
is_named (meanings.Container (heads.List lists.Array)) = false
is_named _ = true

by_test : (b : Bool) (m n : Meaning) → is_named m ≡ true → is_named n ≡ true → is_named (cond b m n) ≡ true
by_test true m n f g = f
by_test false m n f g = g

declared-named : (o : Option ℕ) → is_named (declared_or_unknown o) ≡ true
declared-named None = refl
declared-named (Some d) = refl

parameter-named : (o : Option ℕ) (m : Meaning) → is_named m ≡ true → is_named (parameter_or o m) ≡ true
parameter-named None m h = h
parameter-named (Some i) m h = refl

own-named : (o : Option ℕ) → is_named (own_or_unknown o) ≡ true
own-named None = refl
own-named (Some d) = refl

leaf-named : (o : Option Leaf) (m : Meaning) → is_named m ≡ true → is_named (leaf_or o m) ≡ true
leaf-named None m h = h
leaf-named (Some x) m h = refl

name-named : (p : Known) (n : List ℕ) → is_named (name_meaning p n) ≡ true
name-named p n =
    leaf-named (leaf_of n) (other_meaning p n)
    (by_test (bytes_eq n (codes "Value")) meanings.Value _ refl (by_test (bytes_eq n (codes "Object")) meanings.Object _ refl (by_test (bytes_eq n (codes "Self")) (own_or_unknown p.own) _ (own-named p.own) (parameter-named (p.parameter_of n) (declared_or_unknown (p.place_of n)) (declared-named (p.place_of n))))))

container-named : (n : List ℕ) (hs : List Head) (m : Meaning) → list_all (λ h. is_named (meanings.Container h)) hs ≡ true → is_named m ≡ true → is_named (container_or (container_among n hs) m) ≡ true
container-named n [] m e g = g
container-named n (h ∷ hs) m e g =
    let parts = and_parts (is_named (meanings.Container h)) (list_all (λ k. is_named (meanings.Container k)) hs) e in
    by (bytes_eq n (head_name h)) parts.0 (container-named n hs m parts.1 g)
  where
    by : (b : Bool) → is_named (meanings.Container h) ≡ true → is_named (container_or (container_among n hs) m) ≡ true → is_named (container_or (cond b (Some h) (container_among n hs)) m) ≡ true
    by true f rest = f
    by false f rest = rest

written-named : (p : Known) (s : Segment) → is_named (written_meaning p s) ≡ true
written-named p (plain x) = name-named p x.text
written-named p (applied x args) = container-named x.text containers (name_meaning p x.text) refl (name-named p x.text)

alias-named : (o : Option Written) (m : Meaning) → is_named m ≡ true → is_named (alias_or o m) ≡ true
alias-named None m h = h
alias-named (Some t) m h = refl

meaning-named : (p : Known) (s : Segment) → is_named (meaning p s) ≡ true
meaning-named p s = alias-named (p.alias_of (ident_of s).text) (written_meaning p s) (written-named p s)

-- what is an array is seen from what it equals
seen : (a b : Open) → Some a ≡ Some b → is_array_type a ≡ false → is_array_type b ≡ false
seen a b e f = sym (ap is_array_type (same_Some a b e)) ∙ f

small-not : (t u : Open) → small_list t ≡ Some u → (is_array_type t ≡ true) × (is_array_type u ≡ false)
small-not (types.items lists.Array t) u e = (refl, seen (types.items lists.SmallVec t) u e refl)
small-not (types.items lists.Vec t) u e = absurd (none-some u e)
small-not (types.items lists.LinkedList t) u e = absurd (none-some u e)
small-not (types.items lists.SmallVec t) u e = absurd (none-some u e)
small-not (types.leaf x) u e = absurd (none-some u e)
small-not types.any_value u e = absurd (none-some u e)
small-not types.free_object u e = absurd (none-some u e)
small-not types.unit u e = absurd (none-some u e)
small-not (types.tuple ts) u e = absurd (none-some u e)
small-not (types.set h t) u e = absurd (none-some u e)
small-not (types.map_of h k t) u e = absurd (none-some u e)
small-not (types.option t) u e = absurd (none-some u e)
small-not (types.through h t) u e = absurd (none-some u e)
small-not (types.param i) u e = absurd (none-some u e)
small-not (types.named d ts) u e = absurd (none-some u e)

one-not : (h : Head) (t u : Open) → is_named (meanings.Container h) ≡ true → of_one h t ≡ Some u → is_array_type u ≡ false
one-not (heads.List lists.Vec) t u g e = seen (types.items lists.Vec t) u e refl
one-not (heads.List lists.LinkedList) t u g e = seen (types.items lists.LinkedList t) u e refl
one-not (heads.List lists.SmallVec) t u g e = (small-not t u e).1
one-not (heads.List lists.Array) t u g e = absurd (false≢true g)
one-not (heads.Set h) t u g e = seen (types.set h t) u e refl
one-not (heads.Map h) t u g e = absurd (none-some u e)
one-not heads.Option t u g e = seen (types.option t) u e refl
one-not (heads.Through h) t u g e = seen (types.through h t) u e refl

two-not : (h : Head) (k t u : Open) → of_two h k t ≡ Some u → is_array_type u ≡ false
two-not (heads.List h) k t u e = absurd (none-some u e)
two-not (heads.Set h) k t u e = absurd (none-some u e)
two-not (heads.Map h) k t u e = seen (types.map_of h k t) u e refl
two-not heads.Option k t u e = absurd (none-some u e)
two-not (heads.Through h) k t u e = absurd (none-some u e)

contained-not : (h : Head) (ts : Opens) (u : Open) → is_named (meanings.Container h) ≡ true → contained h ts ≡ Some u → is_array_type u ≡ false
contained-not h types.no_types u g e = absurd (none-some u e)
contained-not h (types.more_types t types.no_types) u g e = one-not h t u g e
contained-not h (types.more_types k (types.more_types t types.no_types)) u g e = two-not h k t u e
contained-not h (types.more_types k (types.more_types t (types.more_types v vs))) u g e = absurd (none-some u e)

alone-not : (a : Open) (ts : Opens) (u : Open) → is_array_type a ≡ false → alone a ts ≡ Some u → is_array_type u ≡ false
alone-not a types.no_types u f e = seen a u e f
alone-not a (types.more_types t ts) u f e = absurd (none-some u e)

declared-not : (p : Known) (d : ℕ) (ts : Opens) (u : Open) → declared_with p d ts ≡ Some u → is_array_type u ≡ false
declared-not p d ts u e = subst (λ t. is_array_type t ≡ false) (taken p d ts u e).1 (declared-cases (λ t. is_array_type t ≡ false) d ts refl refl)

own-not : (p : Known) (d : ℕ) (ts : Opens) (u : Open) → own_type p d ts ≡ Some u → is_array_type u ≡ false
own-not p d types.no_types u e = declared-not p d (opens_of (first_parameters p.parameters)) u e
own-not p d (types.more_types t ts) u e = absurd (none-some u e)

meant-not : (p : Known) (m : Meaning) (ts : Opens) (u : Open) → is_named m ≡ true → meant p m ts ≡ Some u → is_array_type u ≡ false
meant-not p (meanings.Container h) ts u g e = contained-not h ts u g e
meant-not p (meanings.Leaf x) ts u g e = alone-not (types.leaf x) ts u refl e
meant-not p meanings.Value ts u g e = alone-not types.any_value ts u refl e
meant-not p meanings.Object ts u g e = alone-not types.free_object ts u refl e
meant-not p (meanings.Parameter i) ts u g e = alone-not (types.param i) ts u refl e
meant-not p (meanings.Declared d) ts u g e = declared-not p d ts u e
meant-not p (meanings.Own d) ts u g e = own-not p d ts u e
meant-not p meanings.Alias ts u g e = absurd (none-some u e)
meant-not p meanings.Unknown ts u g e = absurd (none-some u e)

-- a segment whose arguments are not bad stands for what its name means with them
pub not_bad : (b : Bool) (o : Option Open) (u : Open) → cond b None o ≡ Some u → (b ≡ false) × (o ≡ Some u)
not_bad true o u e = absurd (none-some u e)
not_bad false o u e = (refl, e)

segment-not : (p : Known) (s : Segment) (u : Open) → segment_type p s ≡ Some u → is_array_type u ≡ false
segment-not p (plain x) u e = meant-not p (meaning p (plain x)) types.no_types u (meaning-named p (plain x)) e
segment-not p (applied x args) u e =
    let good = not_bad (are_bad p (applied x args)) (option_and_then (meant p (meaning p (applied x args))) (argument_types p args)) u e in
    let found = and_then (meant p (meaning p (applied x args))) (argument_types p args) u good.1 in
    meant-not p (meaning p (applied x args)) found.0 u (meaning-named p (applied x args)) found.2

last-cases : (p : Known) (s : Segment) (rest : Segments) (u : Open) → where_none rest (segment_type p s) (last_type p rest) ≡ Some u → (last_type p rest ≡ Some u → is_array_type u ≡ false) → is_array_type u ≡ false
last-cases p s no_segments u e h = segment-not p s u e
last-cases p s (more_segments t ts) u e h = h e

last-not : (p : Known) (ss : Segments) (u : Open) → last_type p ss ≡ Some u → is_array_type u ≡ false
last-not p no_segments u e = absurd (none-some u e)
last-not p (more_segments s rest) u e = last-cases p s rest u e (last-not p rest u)

path-not : (p : Known) (q : WrittenPath) (u : Open) → path_type p q ≡ Some u → is_array_type u ≡ false
path-not p (path_of leading no_segments s) u e = meant-not p (meaning p (nameless s)) types.no_types u (meaning-named p (nameless s)) e
path-not p (path_of leading (more_segments x rest) s) u e = last-not p (more_segments x rest) u e

tuple-not : (ts : Opens) → is_array_type (tuple_of ts) ≡ false
tuple-not types.no_types = refl
tuple-not (types.more_types t ts) = refl

array-is : (p : Known) (w : Written) (t : Open) → type_of p w ≡ Some t → is_array_type t ≡ true → is_array w ≡ true
array-is p (path q) t e a = absurd (false≢true (sym (path-not p q t e) ∙ a))
array-is p (reference w) t e a = array-is p w t e a
array-is p (tuple ws s) t e a = let m = mapped tuple_of (all_types p ws) t e in absurd (false≢true (sym (tuple-not m.0) ∙ ap is_array_type m.2 ∙ a))
array-is p (slice w s) t e a = refl
array-is p (array w s) t e a = refl
array-is p (trait_object q s) t e a = absurd (false≢true (sym (path-not p q t e) ∙ a))

-- ---- right numbers

right-item : (p : Known) (h : ListHead) (w : Written) (t u : Open) → type_of p w ≡ Some t → list_of h t ≡ Some u → is_wrong_item h w ≡ false
right-item p lists.Vec w t u e f = refl
right-item p lists.LinkedList w t u e f = refl
right-item p lists.SmallVec w t u e f = ap not (array-is p w t e (small-not t u f).0)
right-item p lists.Array w t u e f = refl

right-one : (p : Known) (h : Head) (w : Written) (t u : Open) → type_of p w ≡ Some t → of_one h t ≡ Some u → is_wrong_one h w ≡ false
right-one p (heads.List h) w t u e f = right-item p h w t u e f
right-one p (heads.Set h) w t u e f = refl
right-one p (heads.Map h) w t u e f = absurd (none-some u f)
right-one p heads.Option w t u e f = refl
right-one p (heads.Through h) w t u e f = refl

right-two : (h : Head) (k t u : Open) → of_two h k t ≡ Some u → is_no_map h ≡ false
right-two (heads.List h) k t u f = absurd (none-some u f)
right-two (heads.Set h) k t u f = absurd (none-some u f)
right-two (heads.Map h) k t u f = refl
right-two heads.Option k t u f = absurd (none-some u f)
right-two (heads.Through h) k t u f = absurd (none-some u f)

right-in : (p : Known) (h : Head) (ws : List Written) (ts : Opens) (u : Open) → Stand p ws ts → contained h ts ≡ Some u → are_wrong_in h ws ≡ false
right-in p h [] types.no_types u s f = absurd (none-some u f)
right-in p h [] (types.more_types t ts) u s f = absurd s
right-in p h (w ∷ ws) types.no_types u s f = absurd s
right-in p h (w ∷ []) (types.more_types t types.no_types) u s f = right-one p h w t u s.0 f
right-in p h (w ∷ []) (types.more_types t (types.more_types v vs)) u s f = absurd s.1
right-in p h (w ∷ v ∷ ws) (types.more_types t types.no_types) u s f = absurd s.1
right-in p h (w ∷ v ∷ []) (types.more_types t (types.more_types x types.no_types)) u s f = right-two h t x u f
right-in p h (w ∷ v ∷ []) (types.more_types t (types.more_types x (types.more_types y ys))) u s f = absurd s.1.1
right-in p h (w ∷ v ∷ y ∷ ws) (types.more_types t (types.more_types x types.no_types)) u s f = absurd s.1.1
right-in p h (w ∷ v ∷ y ∷ ws) (types.more_types t (types.more_types x (types.more_types z zs))) u s f = absurd (none-some u f)

right-alone : (p : Known) (a : Open) (ws : List Written) (ts : Opens) (u : Open) → Stand p ws ts → alone a ts ≡ Some u → are_any ws ≡ false
right-alone p a [] ts u s f = refl
right-alone p a (w ∷ ws) types.no_types u s f = absurd s
right-alone p a (w ∷ ws) (types.more_types t ts) u s f = absurd (none-some u f)

right-own : (p : Known) (d : ℕ) (ws : List Written) (ts : Opens) (u : Open) → Stand p ws ts → own_type p d ts ≡ Some u → are_wrong p (meanings.Own d) ws ≡ false
right-own p d [] types.no_types u s f =
    ap not (eq-eqb p.parameters (p.parameters_at d) (sym (own-count p.parameters) ∙ (taken p d (opens_of (first_parameters p.parameters)) u f).0))
right-own p d (w ∷ ws) types.no_types u s f = absurd s
right-own p d [] (types.more_types t ts) u s f = absurd s
right-own p d (w ∷ ws) (types.more_types t ts) u s f = absurd (none-some u f)

pub right : (p : Known) (m : Meaning) (ws : List Written) (ts : Opens) (u : Open) → Stand p ws ts → meant p m ts ≡ Some u → are_wrong p m ws ≡ false
right p (meanings.Container h) ws ts u s f = right-in p h ws ts u s f
right p (meanings.Leaf x) ws ts u s f = right-alone p (types.leaf x) ws ts u s f
right p meanings.Value ws ts u s f = right-alone p types.any_value ws ts u s f
right p meanings.Object ws ts u s f = right-alone p types.free_object ws ts u s f
right p (meanings.Parameter i) ws ts u s f = right-alone p (types.param i) ws ts u s f
right p (meanings.Declared d) ws ts u s f = ap not (eq-eqb (length ws) (p.parameters_at d) (stand-length p ws ts s ∙ (taken p d ts u f).0))
right p (meanings.Own d) ws ts u s f = right-own p d ws ts u s f
right p meanings.Alias ws ts u s f = absurd (none-some u f)
right p meanings.Unknown ws ts u s f = refl
