-- Type arguments and what they stand for.
use Rattle.std.proofs.Common.{◌≡◌, ◌≢◌, ℕ, List, [], ◌∷◌, subst, true, not, Option, Some, None, option_map, option_and_then, refl, ap, sym, ◌∙◌, ◌==◌, suc, length, Bool, false, cond}
use Rattle.std.proofs.lemmas.Option.{none-some, same_Some}
use Rattle.written_types.specs.Written.{Written, Segment, Arguments, path, reference, tuple, slice, array, trait_object, plain, applied, no_arguments, more_arguments, lifetime_argument, constant_argument, type_argument}
use Rattle.open_types.specs.declared.open_type.ListHead.{ListHead}
use Rattle.open_types.specs.declared.open_type.ListHead.TheVariants as lists
use Rattle.open_types.specs.Open.{Open, Opens, opens_of}
use Rattle.open_types.specs.Open as types
use Rattle.open_types.specs.declared.head.Head.{Head}
use Rattle.open_types.specs.declared.head.Head.TheVariants as heads
use Rattle.texts.proofs.Laws.{mapped}
use Rattle.resolving.specs.Known.{Known}
use Rattle.resolving.specs.declared.meaning.Meaning.{Meaning}
use Rattle.resolving.specs.declared.meaning.Meaning.TheVariants as meanings
use Rattle.resolving.specs.Names.{types_of, arguments_of, is_array, is_constant_type}
use Rattle.resolving.specs.Resolved.{small_list, list_of, of_one, of_two, contained, alone, first_parameters, own_type, meant, type_of, argument_types, is_wrong_item, is_wrong_one, is_no_map, are_wrong_in, are_any, are_wrong}
use Rattle.resolving.specs.Reading.{segment_arguments}
use Rattle.open_types.specs.Instances.{count}
use Rattle.resolving.proofs.Taken.{not_taken, own-count}

-- the types stand for these, one by one
abbrev pub Stand : Known → List Written → Opens → Type 0
Stand p [] types.no_types = Unit {0}
Stand p [] (types.more_types t ts) = ⊥
Stand p (w ∷ ws) types.no_types = ⊥
Stand p (w ∷ ws) (types.more_types t ts) = (type_of p w ≡ Some t) × Stand p ws ts

stand-more : (p : Known) (w : Written) (ws : List Written) (o : Option Open) (rest : Option Opens) (ts : Opens) → type_of p w ≡ o → ((us : Opens) → rest ≡ Some us → Stand p ws us)
    → option_and_then (λ u. option_map (types.more_types u) rest) o ≡ Some ts → Stand p (w ∷ ws) ts
stand-more p w ws None rest ts e h q = absurd (none-some ts q)
stand-more p w ws (Some t) None ts e h q = absurd (none-some ts q)
stand-more p w ws (Some t) (Some us) ts e h q = subst (Stand p (w ∷ ws)) (same_Some (types.more_types t us) ts q) (e, h us refl)

pub stand-arguments : (p : Known) (args : Arguments) (ts : Opens) → argument_types p args ≡ Some ts → Stand p (types_of p args) ts
stand-arguments p no_arguments ts e = subst (Stand p []) (same_Some types.no_types ts e) tt
stand-arguments p (more_arguments (lifetime_argument x) rest) ts e = stand-arguments p rest ts e
stand-arguments p (more_arguments (constant_argument c) rest) ts e = stand-arguments p rest ts e
stand-arguments p (more_arguments (type_argument w) rest) ts e = by (is_constant_type p w) e (stand-arguments p rest)
  where
    by : (b : Bool) → cond b (argument_types p rest) (option_and_then (λ u. option_map (types.more_types u) (argument_types p rest)) (type_of p w)) ≡ Some ts → ((us : Opens) → argument_types p rest ≡ Some us → Stand p (types_of p rest) us)
        → Stand p (cond b (types_of p rest) (w ∷ types_of p rest)) ts
    by true h later = later ts h
    by false h later = stand-more p w (types_of p rest) (type_of p w) (argument_types p rest) ts refl later h

pub stand-segment : (p : Known) (s : Segment) (ts : Opens) → segment_arguments p s ≡ Some ts → Stand p (types_of p (arguments_of s)) ts
stand-segment p (plain x) ts e = subst (Stand p []) (same_Some types.no_types ts e) tt
stand-segment p (applied x args) ts e = stand-arguments p args ts e

-- ---- what has no meaning with its arguments has wrong ones

small-some : (t u : Open) → types.items lists.Array u ≡ t → small_list t ≡ None → ⊥
small-some t u e n = none-some (types.items lists.SmallVec u) (sym n ∙ sym (ap small_list e))

no_array : (p : Known) (w : Written) (t : Open) → type_of p w ≡ Some t → small_list t ≡ None → not (is_array w) ≡ true
no_array p (path q) t e n = refl
no_array p (reference w) t e n = no_array p w t e n
no_array p (tuple ws s) t e n = refl
no_array p (slice w s) t e n = let m = mapped (types.items lists.Array) (type_of p w) t e in absurd (small-some t m.0 m.2 n)
no_array p (array w s) t e n = let m = mapped (types.items lists.Array) (type_of p w) t e in absurd (small-some t m.0 m.2 n)
no_array p (trait_object q s) t e n = refl

wrong-item : (p : Known) (h : ListHead) (w : Written) (t : Open) → type_of p w ≡ Some t → list_of h t ≡ None → is_wrong_item h w ≡ true
wrong-item p lists.Vec w t e n = absurd (none-some _ (sym n))
wrong-item p lists.LinkedList w t e n = absurd (none-some _ (sym n))
wrong-item p lists.SmallVec w t e n = no_array p w t e n
wrong-item p lists.Array w t e n = absurd (none-some _ (sym n))

wrong-one : (p : Known) (h : Head) (w : Written) (t : Open) → type_of p w ≡ Some t → of_one h t ≡ None → is_wrong_one h w ≡ true
wrong-one p (heads.List h) w t e n = wrong-item p h w t e n
wrong-one p (heads.Set h) w t e n = absurd (none-some _ (sym n))
wrong-one p (heads.Map h) w t e n = refl
wrong-one p heads.Option w t e n = absurd (none-some _ (sym n))
wrong-one p (heads.Through h) w t e n = absurd (none-some _ (sym n))

wrong-two : (h : Head) (k t : Open) → of_two h k t ≡ None → is_no_map h ≡ true
wrong-two (heads.List h) k t n = refl
wrong-two (heads.Set h) k t n = refl
wrong-two (heads.Map h) k t n = absurd (none-some _ (sym n))
wrong-two heads.Option k t n = refl
wrong-two (heads.Through h) k t n = refl

wrong-in : (p : Known) (h : Head) (ws : List Written) (ts : Opens) → Stand p ws ts → contained h ts ≡ None → are_wrong_in h ws ≡ true
wrong-in p h [] types.no_types s n = refl
wrong-in p h [] (types.more_types t ts) s n = absurd s
wrong-in p h (w ∷ ws) types.no_types s n = absurd s
wrong-in p h (w ∷ []) (types.more_types t types.no_types) s n = wrong-one p h w t s.0 n
wrong-in p h (w ∷ []) (types.more_types t (types.more_types u us)) s n = absurd s.1
wrong-in p h (w ∷ v ∷ ws) (types.more_types t types.no_types) s n = absurd s.1
wrong-in p h (w ∷ v ∷ []) (types.more_types t (types.more_types u types.no_types)) s n = wrong-two h t u n
wrong-in p h (w ∷ v ∷ []) (types.more_types t (types.more_types u (types.more_types x xs))) s n = absurd s.1.1
wrong-in p h (w ∷ v ∷ y ∷ ws) (types.more_types t (types.more_types u us)) s n = refl

any-alone : (p : Known) (a : Open) (ws : List Written) (ts : Opens) → Stand p ws ts → alone a ts ≡ None → are_any ws ≡ true
any-alone p a [] types.no_types s n = absurd (none-some a (sym n))
any-alone p a [] (types.more_types t ts) s n = absurd s
any-alone p a (w ∷ ws) ts s n = refl

-- as many types as they stand for
pub stand-length : (p : Known) (ws : List Written) (ts : Opens) → Stand p ws ts → length ws ≡ count ts
stand-length p [] types.no_types s = refl
stand-length p [] (types.more_types t ts) s = absurd s
stand-length p (w ∷ ws) types.no_types s = absurd s
stand-length p (w ∷ ws) (types.more_types t ts) s = ap suc (stand-length p ws ts s.1)

wrong-own : (p : Known) (d : ℕ) (ws : List Written) (ts : Opens) → Stand p ws ts → own_type p d ts ≡ None → are_wrong p (meanings.Own d) ws ≡ true
wrong-own p d [] types.no_types s n =
    ap not (ap (λ k. k == p.parameters_at d) (sym (own-count p.parameters)) ∙ not_taken p d (opens_of (first_parameters p.parameters)) n)
wrong-own p d [] (types.more_types t ts) s n = absurd s
wrong-own p d (w ∷ ws) ts s n = refl

pub wrong : (p : Known) (m : Meaning) (ws : List Written) (ts : Opens) → Stand p ws ts → meant p m ts ≡ None → m ≢ meanings.Unknown → are_wrong p m ws ≡ true
wrong p (meanings.Container h) ws ts s n u = wrong-in p h ws ts s n
wrong p (meanings.Leaf x) ws ts s n u = any-alone p (types.leaf x) ws ts s n
wrong p meanings.Value ws ts s n u = any-alone p types.any_value ws ts s n
wrong p meanings.Object ws ts s n u = any-alone p types.free_object ws ts s n
wrong p (meanings.Parameter i) ws ts s n u = any-alone p (types.param i) ws ts s n
wrong p (meanings.Declared d) ws ts s n u = ap not (ap (λ k. k == p.parameters_at d) (stand-length p ws ts s) ∙ not_taken p d ts n)
wrong p (meanings.Own d) ws ts s n u = wrong-own p d ws ts s n
wrong p meanings.Alias ws ts s n u = refl
wrong p meanings.Unknown ws ts s n u = absurd (u refl)
