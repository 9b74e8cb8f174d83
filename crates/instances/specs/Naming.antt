-- What the names of instances are.
use Rattle.std.specs.Prelude.{◌≡◌, List}
use Rattle.texts.specs.Names.{IsDistinct}
use Rattle.open_types.specs.Open.{Open}
use Rattle.shapes.specs.Declarations.{DeclarationOf}
use Rattle.instances.specs.Names.{instance_names, IsClash}
use Rattle.instances.specs.declared.names.Naming.{Naming}
use Rattle.instances.specs.declared.names.Naming.TheVariants.{Apart, Clash}

-- the names of all instances, which are distinct; or two numbers of one name
abbrev pub IsNaming : List DeclarationOf → List Open → Naming → Type 0
IsNaming ss is (Apart names) = (names ≡ instance_names ss is) × IsDistinct names
IsNaming ss is (Clash m n) = IsClash ss is m n
