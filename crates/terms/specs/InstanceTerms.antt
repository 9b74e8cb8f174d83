-- The terms of instances: what stands at the leaves of a declaration's term with the arguments put in.
use Rattle.std.specs.Prelude.{◌≡◌, ℕ, List, true}
use Rattle.schema_trees.specs.Schema.{SchemaOf, leaf, bind}
use Rattle.open_types.specs.Open.{Open, Opens, no_types, argument_at, substituted}
use Rattle.open_types.specs.Open as types
use Rattle.open_types.specs.Instances.{arguments_of}
use Rattle.component.specs.Leaves.{LeafOf, param, named}
use Rattle.component.specs.Places.{inside, place}
use Rattle.shapes.specs.Declarations.{DeclarationOf, declaration_at}
use Rattle.shapes.specs.Instances.{declared_by}
use Rattle.terms.specs.Terms.{term}

-- What stands at a leaf of a declaration's term: at a parameter the schema of its argument, inline and without annotations; else the name with the arguments put in.
abbrev pub with_arguments : Opens → LeafOf → SchemaOf LeafOf
with_arguments args (param i) = place (inside true) (argument_at args i)
with_arguments args (named t inline keywords) = leaf (named (substituted args t) inline keywords)

-- the term of a declaration with the arguments put in
abbrev pub term_over : Opens → DeclarationOf → SchemaOf LeafOf
term_over args s = bind (with_arguments args) (term s)

-- The term of an instance. No parameter is left in it where the arguments are closed and as many as the parameters.
abbrev pub instance_term : List DeclarationOf → Open → SchemaOf LeafOf
instance_term ss t = term_over (arguments_of t) (declared_by ss t)

-- The law: the term of an instance without arguments is its declaration's.
abbrev pub RootTerms : Type 0
RootTerms = (ss : List DeclarationOf) (d : ℕ) → instance_term ss (types.named d no_types) ≡ term (declaration_at ss d)
