-- What stands behind an attribute's path, where the program has it without copies.
use Rattle.tokens.specs.Trees.{trees_view}
use Rattle.words.specs.Words.{words_view}
use Rattle.attributes.specs.declared.meta.Form.{Form}
use Rattle.attributes.specs.declared.meta.Form.TheVariants as forms
use Rattle.attributes.specs.Attributes.{MetaItem, word, value, items}

abbrev pub form_view : Form → MetaItem
form_view forms.Word = word
form_view (forms.NameValue ts) = value (words_view ts.now)
form_view (forms.Items g) = items g.now.bracket (trees_view g.now.trees) g.now.span
