-- Walks over a table that grows at its end, and over instances.
use Rattle.std.proofs.Common.{ℕ, zero, suc, ◌+◌, ◌<◌, ◌≤◌, ◌==◌, List, [], ◌∷◌, ◌++◌, length, map, get_or, take, Bool, true, false, cond, Option, Some, None, option_map, ◌≡◌, refl, ap, sym, subst, ◌∙◌, ◌⊎◌, inl, inr, arith, length-append}
use Rattle.std.proofs.lemmas.Bool.{false≢true, eqb-true, eq-eqb, cases_Bool}
use Rattle.std.proofs.lemmas.List.{length-map, map-append, take_more, map_push}
use Rattle.open_types.specs.Open.{Open, Opens, leaf, any_value, free_object, unit, tuple, items, set, map_of, option, through, param, named, no_types, more_types, IsOverFirst, AreOverFirst, substituted}
use Rattle.open_types.specs.Instances.{StandsIn, StandsInOne, declared_place, arguments_of, count}
use Rattle.open_types.specs.Within.{IsOver, AreOver, AreAllOver}
use Rattle.type_table.specs.Types.{type_at, types_at, AllBelow, IsFront}
use Rattle.type_table.proofs.Laws.{type-stays, type_front, below-more, below_front, front_itself, front_twice}
use Rattle.shapes.specs.Declarations.{MemberOf, FlattenedOf, FlattenedMapOf, FormOf, named_fields, unnamed_fields, no_fields, VariantOf, BodyOf, fields, units, numbers, variants, DeclarationOf, declaration_at, parameters_in, member_types, flattened_types, map_types, form_types, variant_types, body_types}
use Rattle.shapes.specs.Instances.{member_over, flattened_over, flattened_map_over, form_over, variant_over, body_over, places_at}
use Rattle.shapes.specs.InstanceShape.{IsReachable, IsRoot, root}
use Rattle.shapes.specs.Declarations.{AreFitting}
use Rattle.instances.specs.Fitting.{IsFit}
use Rattle.instances.specs.Lists.{IsOneOf, AreDifferent, instance_at, IsWhole}
use Rattle.instances.specs.Walk.{AreReached}
use Rattle.instances.specs.Entering.{AreHeld, IsLonger, AreEntered, AreFound, IsWalked, root_at, roots_among}
use Rattle.instances.specs.declared.bounds.Bounds.{Bounds}
use Rattle.instances.specs.declared.enter.Found.{Found}
use Rattle.instances.proofs.Lists.{whole-instances}
use Rattle.instances.proofs.Entered.{stands-either, marked-within, longer-itself, longer-twice}
use Rattle.instances.proofs.Laws.{one-left, stands-left, stands-right}

-- ---- a table that grows

pub no-shorter : (old new : List Open) → IsFront old new → length old ≤ length new
no-shorter old new f = subst (λ ts. length old ≤ length ts) (sym f.1) (omega (arith, length-append old f.0))

pub below-up : (bound : ℕ) (known : List Open) (ns : List ℕ) → bound < length known → AllBelow bound ns → AllBelow (length known) ns
below-up bound known ns l h = below-more bound (length known) ns (omega (arith, l)) h

pub same-types : (old new : List Open) (ns : List ℕ) → IsFront old new → AllBelow (length old) ns → map (type_at new) ns ≡ map (type_at old) ns
same-types old new [] f h = refl
same-types old new (n ∷ ns) f h = λ k. type_front old new n f h.0 k ∷ same-types old new ns f h.1 k

module _ (ss : List DeclarationOf) (limit most : ℕ) where
  -- what is entered stays so where the table grows
  pub entered-front : (old new : List Open) (marks : List Bool) (is : List ℕ) → IsFront old new → AreEntered ss old limit most marks is → AreEntered ss new limit most marks is
  entered-front old new marks is f e =
      let same : map (type_at old) is ≡ map (type_at new) is = sym (same-types old new is f e.below) in
      record {
        room = omega (arith, e.room, no-shorter old new f);
        below = below_front old new is f e.below;
        closed = λ n m u s. subst (IsOneOf u) same (e.closed n m u (subst (StandsIn u) (type_front old new n f (omega (arith, marked-within marks n m, e.room))) s));
        held = e.held;
        different = subst AreDifferent same e.different;
        reached = λ t o. e.reached t (subst (IsOneOf t) (sym same) o);
        few = e.few;
        small = λ t o. e.small t (subst (IsOneOf t) (sym same) o);
      }

-- ---- what is walked

-- with the instances, those of a longer list
pub longer-holds : (known : List Open) (is js : List ℕ) (u : Open) → IsLonger is js → IsOneOf u (map (type_at known) is) → IsOneOf u (map (type_at known) js)
longer-holds known is js u f o = subst (IsOneOf u) (sym (ap (map (type_at known)) f.1 ∙ map-append (type_at known) is f.0)) (one-left u (map (type_at known) is) (map (type_at known) f.0) o)

module _ (ss : List DeclarationOf) (bounds : Bounds) where
  pub walked-none : (known : List Open) (found : Found) → AreFound ss known bounds found → IsWalked ss bounds known found.instances known found []
  walked-none known found e = record { found = e; front = front_itself known; longer = longer-itself found.instances; held = λ u s. absurd s }

  pub walked-twice : (a b c : List Open) (old : List ℕ) (mid new : Found) (ts us : List Open) → IsWalked ss bounds a old b mid ts → IsWalked ss bounds b mid.instances c new us → IsWalked ss bounds a old c new (ts ++ us)
  walked-twice a b c old mid new ts us f g = record {
    found = g.found;
    front = front_twice a b c f.front g.front;
    longer = longer-twice old mid.instances new.instances f.longer g.longer;
    held = λ u s. by u (stands-either u ts us s);
  }
    where
      by : (u : Open) → StandsInOne u ts ⊎ StandsInOne u us → IsOneOf u (map (type_at c) new.instances)
      by u (inl s) = longer-holds c mid.instances new.instances u g.longer (subst (IsOneOf u) (sym (same-types b c mid.instances g.front f.found.below)) (f.held u s))
      by u (inr s) = g.held u s

  -- in a table that had grown before
  pub walked-before : (a b c : List Open) (old : List ℕ) (new : Found) (ts : List Open) → IsFront a b → IsWalked ss bounds b old c new ts → IsWalked ss bounds a old c new ts
  walked-before a b c old new ts f g = record { found = g.found; front = front_twice a b c f g.front; longer = g.longer; held = g.held }

-- ---- places

module _ (args : Opens) where
  abbrev put : Open → Open
  put = substituted args

  members-put : (ms : List MemberOf) → member_types (map (member_over args) ms) ≡ map put (member_types ms)
  members-put [] = refl
  members-put (m ∷ ms) = ap (λ ts. put m.of ∷ ts) (members-put ms)

  flattened-put : (fs : List FlattenedOf) → flattened_types (map (flattened_over args) fs) ≡ map put (flattened_types fs)
  flattened-put [] = refl
  flattened-put (f ∷ fs) = ap (λ ts. put f.of ∷ ts) (flattened-put fs)

  map-put : (x : Option FlattenedMapOf) → map_types (option_map (flattened_map_over args) x) ≡ map put (map_types x)
  map-put None = refl
  map-put (Some m) = refl

  form-put : (form : FormOf) → form_types (form_over args form) ≡ map put (form_types form)
  form-put (named_fields b ms) =
      (λ i. flattened-put b.flattened i ++ (map-put b.map i ++ members-put ms i))
      ∙ ap (λ ts. map put (flattened_types b.flattened) ++ ts) (sym (map-append put (map_types b.map) (member_types ms)))
      ∙ sym (map-append put (flattened_types b.flattened) (map_types b.map ++ member_types ms))
  form-put (unnamed_fields ts) = refl
  form-put no_fields = refl

  variants-put : (xs : List VariantOf) → variant_types (map (variant_over args) xs) ≡ map put (variant_types xs)
  variants-put [] = refl
  variants-put (x ∷ xs) = (λ i. form-put x.form i ++ variants-put xs i) ∙ sym (map-append put (form_types x.form) (variant_types xs))

  -- the types of the places with the arguments put in
  pub places-over : (body : BodyOf) → body_types (body_over args body) ≡ map put (body_types body)
  places-over (fields form) = form-put form
  places-over (units tagging names) = refl
  places-over (numbers tagging ns) = refl
  places-over (variants tagging xs) = variants-put xs

-- what stands in one of the types
pub stands-at : (u : Open) (ts : List Open) (n : ℕ) (y : Open) → n < length ts → y ≡ get_or ts n y → StandsIn u y → StandsInOne u ts
stands-at u [] n y l e s = absurd (omega (arith, l))
stands-at u (t ∷ ts) zero y l e s = inl (subst (StandsIn u) e s)
stands-at u (t ∷ ts) (suc n) y l e s = inr (stands-at u ts n y (omega (arith, l)) e s)

pub mapped-at : {A : Type 0} (v : A → Open) (xs : List A) (n : ℕ) (d : A) → n < length xs → get_or (map v xs) n (v d) ≡ v (get_or xs n d)
mapped-at v [] n d l = absurd (omega (arith, l))
mapped-at v (x ∷ xs) zero d l = refl
mapped-at v (x ∷ xs) (suc n) d l = mapped-at v xs n d (omega (arith, l))

alone : (u t : Open) → StandsInOne u (t ∷ []) → StandsIn u t
alone u t (inl s) = s
alone u t (inr s) = absurd s

pub over-at : (ds : ℕ) (ps : ℕ → ℕ) (m : ℕ) (ts : List Open) (n : ℕ) (y : Open) → n < length ts → y ≡ get_or ts n y → AreAllOver ds ps m ts → IsOver ds ps m y
over-at ds ps m [] n y l e h = absurd (omega (arith, l))
over-at ds ps m (t ∷ ts) zero y l e h = subst (IsOver ds ps m) (sym e) h.0
over-at ds ps m (t ∷ ts) (suc n) y l e h = over-at ds ps m ts n y (omega (arith, l)) e h.1

module _ (ds : ℕ) (ps : ℕ → ℕ) (n : ℕ) where
  mutual
    pub over-first : (t : Open) → IsOver ds ps n t → IsOverFirst n t
    over-first (leaf x) h = tt
    over-first any_value h = tt
    over-first free_object h = tt
    over-first unit h = tt
    over-first (tuple ts) h = all-first ts h
    over-first (items x t) h = over-first t h
    over-first (set x t) h = over-first t h
    over-first (map_of x k t) h = (over-first k h.0, over-first t h.1)
    over-first (option t) h = over-first t h
    over-first (through x t) h = over-first t h
    over-first (param i) h = h
    over-first (named d ts) h = all-first ts h.2

    all-first : (ts : Opens) → AreOver ds ps n ts → AreOverFirst n ts
    all-first no_types h = tt
    all-first (more_types t ts) h = (over-first t h.0, all-first ts h.1)

pub counted-arguments : (known : List Open) (ns : List ℕ) → count (types_at known ns) ≡ length ns
counted-arguments known [] = refl
counted-arguments known (n ∷ ns) = ap suc (counted-arguments known ns)

pub fit-within : (ss : List DeclarationOf) (t : Open) → IsFit ss t → declared_place t < length ss
fit-within ss t fit = subst (λ d. d < length ss) (sym (ap declared_place fit.is)) fit.over.0

-- the places of an instance that fits, where the types of its declaration's places are given
module _ (ss : List DeclarationOf) (fitting : AreFitting ss) (t : Open) (fit : IsFit ss t) (xs : List Open) (are : xs ≡ body_types (declaration_at ss (declared_place t)).body) where
  abbrev put-in : Open → Open
  put-in = substituted (arguments_of t)

  same-place : declared_place t ≡ fit.declaration
  same-place = ap declared_place fit.is

  many-arguments : count (arguments_of t) ≡ parameters_in ss (declared_place t)
  many-arguments = ap (λ v. count (arguments_of v)) fit.is ∙ fit.over.1 ∙ ap (parameters_in ss) (sym same-place)

  pub all-places : map put-in xs ≡ places_at ss t
  all-places = ap (map put-in) are ∙ sym (places-over (arguments_of t) (declaration_at ss (declared_place t)).body)

  pub place-over : (n : ℕ) (y : Open) → n < length xs → y ≡ get_or xs n y → IsOverFirst (count (arguments_of t)) y
  place-over n y l e =
      let here : declared_place t < length ss = fit-within ss t fit in
      let over : AreAllOver (length ss) (parameters_in ss) (parameters_in ss (declared_place t)) xs = subst (AreAllOver (length ss) (parameters_in ss) (parameters_in ss (declared_place t))) (sym are) (fitting (declared_place t) here) in
      subst (λ m. IsOverFirst m y) (sym many-arguments) (over-first (length ss) (parameters_in ss) (parameters_in ss (declared_place t)) y (over-at (length ss) (parameters_in ss) (parameters_in ss (declared_place t)) xs n y l e over))

  pub place-stands : (n : ℕ) (y : Open) → n < length xs → y ≡ get_or xs n y → (u : Open) → StandsInOne u (put-in y ∷ []) → StandsInOne u (places_at ss t)
  place-stands n y l e u s =
      let more : n < length (map put-in xs) = omega (arith, l, length-map xs put-in) in
      let at : put-in y ≡ get_or (map put-in xs) n (put-in y) = ap put-in e ∙ sym (mapped-at put-in xs n y l) in
      subst (StandsInOne u) all-places (stands-at u (map put-in xs) n (put-in y) more at (alone u (put-in y) s))

-- ---- places so far

module _ {A : Type 0} (v : A → Open) (h : Open → Open) where
  pub taken-none : (xs : List A) → map h (map v (take 0 xs)) ≡ []
  taken-none [] = refl
  taken-none (x ∷ xs) = refl

  pub taken-more : (xs : List A) (n : ℕ) (y : A) → n < length xs → y ≡ get_or xs n y → map h (map v (take (n + 1) xs)) ≡ map h (map v (take n xs)) ++ h (v y) ∷ []
  taken-more xs n y l e =
      ap (λ zs. map h (map v zs)) (take_more xs n y l)
      ∙ ap (map h) (map_push v (take n xs) (get_or xs n y))
      ∙ map_push h (map v (take n xs)) (v (get_or xs n y))
      ∙ ap (λ z. map h (map v (take n xs)) ++ h (v z) ∷ []) (sym e)

-- ---- roots

pub root-none : (ss : List DeclarationOf) (d : ℕ) → ¬ (parameters_in ss d ≡ 0) → root_at ss d ≡ []
root-none ss d n = by (cases_Bool (parameters_in ss d == 0))
  where
    by : ((parameters_in ss d == 0) ≡ true) ⊎ ((parameters_in ss d == 0) ≡ false) → root_at ss d ≡ []
    by (inl q) = absurd (n (eqb-true (parameters_in ss d) 0 q))
    by (inr q) = ap (λ b. cond b (named d no_types ∷ []) []) q

pub root-one : (ss : List DeclarationOf) (d : ℕ) → parameters_in ss d ≡ 0 → root_at ss d ≡ named d no_types ∷ []
root-one ss d e = ap (λ b. cond b (named d no_types ∷ []) []) (eq-eqb (parameters_in ss d) 0 e)

pub root-reached : (ss : List DeclarationOf) (d : ℕ) → IsRoot ss d → (u : Open) → StandsInOne u (named d no_types ∷ []) → IsReachable ss u
root-reached ss d r u (inl (inl e)) = subst (IsReachable ss) (sym e) (root d r)
root-reached ss d r u (inl (inr s)) = absurd s
root-reached ss d r u (inr s) = absurd s

-- ---- the end of a walk

below-other : (a b : ℕ) → a < suc b → ¬ (a ≡ b) → a < b
below-other a b k n = omega (arith, k, n)

pub root-held : (ss : List DeclarationOf) (m d : ℕ) → d < m → parameters_in ss d ≡ 0 → (is : List Open) → AreHeld (roots_among ss m) is → IsOneOf (named d no_types) is
root-held ss zero d l e is h = absurd (omega (arith, l))
root-held ss (suc m) d l e is h = by (cases_Bool (d == m)) (λ k. root-held ss m d k e is (λ u s. h u (stands-left u (roots_among ss m) (root_at ss m) s)))
  where
    here : d ≡ m → StandsInOne (named d no_types) (root_at ss m)
    here q = subst (λ n. StandsInOne (named d no_types) (root_at ss n)) q (subst (λ b. StandsInOne (named d no_types) (cond b (named d no_types ∷ []) [])) (sym (eq-eqb (parameters_in ss d) 0 e)) (inl (inl refl)))

    by : ((d == m) ≡ true) ⊎ ((d == m) ≡ false) → ((d < m) → IsOneOf (named d no_types) is) → IsOneOf (named d no_types) is
    by (inl q) before = h (named d no_types) (stands-right (named d no_types) (roots_among ss m) (root_at ss m) (here (eqb-true d m q)))
    by (inr q) before = before (below-other d m l (λ r. false≢true (sym q ∙ eq-eqb d m r)))

place-of : (t : Open) (is : List Open) → IsOneOf t is → (k : ℕ) × (k < length is) × (t ≡ instance_at is k)
place-of t [] o = absurd o
place-of t (i ∷ is) (inl e) = (0, omega arith, e)
place-of t (i ∷ is) (inr o) = let h = place-of t is o in let l : h.0 < length is = h.1 in (suc h.0, omega (arith, l), h.2)

pub walked-whole : (ss : List DeclarationOf) (is : List Open) → AreHeld (roots_among ss (length ss)) is → ((k : ℕ) → k < length is → AreHeld (places_at ss (instance_at is k)) is) → IsWhole ss is
walked-whole ss is roots places = record {
  roots = λ d r. root-held ss (length ss) d r.0 r.1 is roots;
  places = λ t u o s. let h = place-of t is o in places h.0 h.1 u (subst (λ v. StandsInOne u (places_at ss v)) h.2 s);
}

pub whole-reached : (ss : List DeclarationOf) (known : List Open) (limit most : ℕ) (marks : List Bool) (is : List ℕ) → AreEntered ss known limit most marks is → IsWhole ss (map (type_at known) is) → AreReached ss limit most (map (type_at known) is)
whole-reached ss known limit most marks is e w =
    let are = whole-instances ss (map (type_at known) is) e.reached e.different w in
    record {
      instances = are;
      few = omega (arith, length-map is (type_at known), e.few);
      small = λ t r. e.small t (are.all t r);
    }

-- one instance more was walked
module _ (ss : List DeclarationOf) (bounds : Bounds) (known : List Open) (old : Found) (entered : AreFound ss known bounds old) (after : List Open) (new : Found) where
  abbrev before_ones : List Open
  before_ones = map (type_at known) old.instances

  abbrev after_ones : List Open
  after_ones = map (type_at after) new.instances

  module _ (ts : List Open) (walked : IsWalked ss bounds known old.instances after new ts) where
    still-held : (us : List Open) → AreHeld us before_ones → AreHeld us after_ones
    still-held us h u s = longer-holds after old.instances new.instances u walked.longer (subst (IsOneOf u) (sym (same-types known after old.instances walked.front entered.below)) (h u s))

    still-at : (k : ℕ) → k < length old.instances → instance_at after_ones k ≡ instance_at before_ones k
    still-at k l =
        let one : length old.instances ≡ length before_ones = sym (length-map old.instances (type_at known)) in
        ap (λ is. instance_at is k) (ap (map (type_at after)) walked.longer.1 ∙ map-append (type_at after) old.instances walked.longer.0 ∙ ap (λ is. is ++ map (type_at after) walked.longer.0) (same-types known after old.instances walked.front entered.below))
        ∙ type-stays before_ones (map (type_at after) walked.longer.0) k (omega (arith, l, one))

    pub no-fewer : length old.instances ≤ length new.instances
    no-fewer = subst (λ is. length old.instances ≤ length is) (sym walked.longer.1) (omega (arith, length-append old.instances walked.longer.0))

    pub roots-still : (us : List Open) → AreHeld us before_ones → AreHeld us after_ones
    roots-still = still-held

    pub places-more : (n : ℕ) → n < length old.instances → ts ≡ places_at ss (instance_at before_ones n) → ((k : ℕ) → k < n → AreHeld (places_at ss (instance_at before_ones k)) before_ones) → (k : ℕ) → k < n + 1 → AreHeld (places_at ss (instance_at after_ones k)) after_ones
    places-more n l e h k m = by (cases_Bool (k == n))
      where
        by : ((k == n) ≡ true) ⊎ ((k == n) ≡ false) → AreHeld (places_at ss (instance_at after_ones k)) after_ones
        by (inl q) =
            let same : k ≡ n = eqb-true k n q in
            let at : ts ≡ places_at ss (instance_at after_ones k) = e ∙ ap (λ i. places_at ss i) (sym (ap (instance_at after_ones) same ∙ still-at n l)) in
            subst (λ us. AreHeld us after_ones) at walked.held
        by (inr q) =
            let other : ¬ (k ≡ n) = λ r. false≢true (sym q ∙ eq-eqb k n r) in
            let less : k < n = below-other k n (omega (arith, m)) other in
            let small : k < length old.instances = omega (arith, less, l) in
            subst (λ i. AreHeld (places_at ss i) after_ones) (sym (still-at k small)) (still-held (places_at ss (instance_at before_ones k)) (h k less))
