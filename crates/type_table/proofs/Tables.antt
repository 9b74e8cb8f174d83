-- Types that nodes stand for: how the list of them grows, and that different nodes are different types.
use Rattle.std.proofs.Common.{ℕ, suc, ◌<◌, ◌≤◌, List, [], ◌∷◌, ◌++◌, length, ◌≡◌, refl, ap, ap₂, sym, subst, ◌∙◌, ◌⊎◌, inl, inr, arith}
use Rattle.std.proofs.Math.ListN.{get_or-append}
use Rattle.std.proofs.Math.Seq.{get_or-append_seam}
use Rattle.std.proofs.lemmas.List.{length_push, length-append}
use Rattle.open_types.specs.Open.{Open, unit, tuple, items, set, map_of, option, through, named, more_types}
use Rattle.type_table.specs.declared.node.Node.{Node}
use Rattle.type_table.specs.declared.node.Node.TheVariants as nodes
use Rattle.type_table.specs.Nodes.{items_of, node_type, node_parts, types_from, IsTuple, HasTuple, HasParts}
use Rattle.type_table.specs.Types.{type_at, AllBelow, AreApart}

pub more-long : {X : Type 0} (known : List X) (t : X) → length (known ++ t ∷ []) ≡ suc (length known)
more-long known t = let e = length_push known t in omega (arith, e)

-- a node more is a type more, at the end
pub nodes-grow : (known : List Open) (xs : List Node) (x : Node) → types_from known (xs ++ x ∷ []) ≡ types_from known xs ++ node_type (types_from known xs) x ∷ []
nodes-grow known [] x = refl
nodes-grow known (y ∷ xs) x = nodes-grow (known ++ node_type known y ∷ []) xs x

pub type-stays : (known more : List Open) (n : ℕ) → n < length known → type_at (known ++ more) n ≡ type_at known n
type-stays known more n l = get_or-append known more unit n l

pub type-behind : (known : List Open) (t : Open) → type_at (known ++ t ∷ []) (length known) ≡ t
type-behind known t = get_or-append_seam known t [] unit

-- the type of a node with its parts in the list stays where the list grows at its end
pub nodes-stay : (known more : List Open) (x : Node) → HasParts known x → node_type (known ++ more) x ≡ node_type known x
nodes-stay known more (nodes.Leaf x) h = refl
nodes-stay known more nodes.AnyValue h = refl
nodes-stay known more nodes.FreeObject h = refl
nodes-stay known more nodes.Unit h = refl
nodes-stay known more nodes.NoItems h = refl
nodes-stay known more (nodes.Item m n) h = λ k. tuple (more_types (type-stays known more m h.0.0 k) (items_of (type-stays known more n h.0.1.0 k)))
nodes-stay known more (nodes.Items x n) h = ap (items x) (type-stays known more n h.0.0)
nodes-stay known more (nodes.Set x n) h = ap (set x) (type-stays known more n h.0.0)
nodes-stay known more (nodes.Map x m n) h = λ k. map_of x (type-stays known more m h.0.0 k) (type-stays known more n h.0.1.0 k)
nodes-stay known more (nodes.Option n) h = ap option (type-stays known more n h.0.0)
nodes-stay known more (nodes.Through x n) h = ap (through x) (type-stays known more n h.0.0)
nodes-stay known more (nodes.Named d n) h = ap (λ t. named d (items_of t)) (type-stays known more n h.0.0)

-- a tuple is the tuple of its items
pub tuple-is : (t : Open) → IsTuple t → t ≡ tuple (items_of t)
tuple-is (tuple ts) h = refl
tuple-is _ h = absurd h

module _ (known : List Open) (apart : AreApart known) where
  one-list : (m n : ℕ) → m < length known → n < length known → IsTuple (type_at known m) → IsTuple (type_at known n) → items_of (type_at known m) ≡ items_of (type_at known n) → m ≡ n
  one-list m n l k h i e = apart m n l k (tuple-is (type_at known m) h ∙ ap tuple e ∙ sym (tuple-is (type_at known n) i))

  -- different nodes with their parts in the list are different types
  pub one-node : (x y : Node) → HasParts known x → HasParts known y → node_type known x ≡ node_type known y → x ≡ y
  one-node (nodes.Leaf x) (nodes.Leaf y) h k e = cc
  one-node nodes.AnyValue nodes.AnyValue h k e = refl
  one-node nodes.FreeObject nodes.FreeObject h k e = refl
  one-node nodes.Unit nodes.Unit h k e = refl
  one-node nodes.NoItems nodes.NoItems h k e = refl
  one-node (nodes.Item i r) (nodes.Item j s) h k e =
      let first : type_at known i ≡ type_at known j = cc in let rest : items_of (type_at known r) ≡ items_of (type_at known s) = cc in
      ap₂ nodes.Item (apart i j h.0.0 k.0.0 first) (one-list r s h.0.1.0 k.0.1.0 h.1 k.1 rest)
  one-node (nodes.Items x i) (nodes.Items y j) h k e =
      let head : x ≡ y = cc in let part : type_at known i ≡ type_at known j = cc in ap₂ nodes.Items head (apart i j h.0.0 k.0.0 part)
  one-node (nodes.Set x i) (nodes.Set y j) h k e =
      let head : x ≡ y = cc in let part : type_at known i ≡ type_at known j = cc in ap₂ nodes.Set head (apart i j h.0.0 k.0.0 part)
  one-node (nodes.Map x s i) (nodes.Map y t j) h k e =
      let head : x ≡ y = cc in let key : type_at known s ≡ type_at known t = cc in let part : type_at known i ≡ type_at known j = cc in
      λ n. nodes.Map (head n) (apart s t h.0.0 k.0.0 key n) (apart i j h.0.1.0 k.0.1.0 part n)
  one-node (nodes.Option i) (nodes.Option j) h k e = let part : type_at known i ≡ type_at known j = cc in ap nodes.Option (apart i j h.0.0 k.0.0 part)
  one-node (nodes.Through x i) (nodes.Through y j) h k e =
      let head : x ≡ y = cc in let part : type_at known i ≡ type_at known j = cc in ap₂ nodes.Through head (apart i j h.0.0 k.0.0 part)
  one-node (nodes.Named d r) (nodes.Named c s) h k e =
      let head : d ≡ c = cc in let parts : items_of (type_at known r) ≡ items_of (type_at known s) = cc in ap₂ nodes.Named head (one-list r s h.0.0 k.0.0 h.1 k.1 parts)
  one-node _ _ h k e = cc

-- different numbers have different types still with a type more that none of them has
pub apart-stay : (known : List Open) (t : Open) → AreApart known → ((n : ℕ) → n < length known → ¬ (type_at known n ≡ t)) → AreApart (known ++ t ∷ [])
apart-stay known t apart fresh m n lm ln e = by (split m (subst (λ k. m < k) (more-long known t) lm)) (split n (subst (λ k. n < k) (more-long known t) ln))
  where
    split : (n : ℕ) → n < suc (length known) → (n < length known) ⊎ (n ≡ length known)
    split n l = grind arith

    by : (m < length known) ⊎ (m ≡ length known) → (n < length known) ⊎ (n ≡ length known) → m ≡ n
    by (inl a) (inl b) = apart m n a b (sym (type-stays known (t ∷ []) m a) ∙ e ∙ type-stays known (t ∷ []) n b)
    by (inl a) (inr b) = absurd (fresh m a (sym (type-stays known (t ∷ []) m a) ∙ e ∙ ap (type_at (known ++ t ∷ [])) b ∙ type-behind known t))
    by (inr a) (inl b) = absurd (fresh n b (sym (type-stays known (t ∷ []) n b) ∙ sym e ∙ ap (type_at (known ++ t ∷ [])) a ∙ type-behind known t))
    by (inr a) (inr b) = a ∙ sym b

-- ---- parts of nodes

pub below-more : (m n : ℕ) (ns : List ℕ) → m ≤ n → AllBelow m ns → AllBelow n ns
below-more m n [] l h = tt
below-more m n (k ∷ ns) l h = (let below : k < m = h.0 in omega (arith, l, below), below-more m n ns l h.1)

-- a node has its parts where the list grows at its end
pub parts-stay : (known more : List Open) (x : Node) → HasParts known x → HasParts (known ++ more) x
parts-stay known more x h = (below-more (length known) (length (known ++ more)) (node_parts x) (omega (arith, length-append known more)) h.0, tuple-stays x h)
  where
    at : (n : ℕ) → n < length known → IsTuple (type_at known n) → IsTuple (type_at (known ++ more) n)
    at n l h = subst IsTuple (sym (type-stays known more n l)) h

    tuple-stays : (x : Node) → HasParts known x → HasTuple (known ++ more) x
    tuple-stays (nodes.Item m n) h = at n h.0.1.0 h.1
    tuple-stays (nodes.Named d n) h = at n h.0.0 h.1
    tuple-stays (nodes.Leaf x) h = tt
    tuple-stays nodes.AnyValue h = tt
    tuple-stays nodes.FreeObject h = tt
    tuple-stays nodes.Unit h = tt
    tuple-stays nodes.NoItems h = tt
    tuple-stays (nodes.Items x n) h = tt
    tuple-stays (nodes.Set x n) h = tt
    tuple-stays (nodes.Map x m n) h = tt
    tuple-stays (nodes.Option n) h = tt
    tuple-stays (nodes.Through x n) h = tt
