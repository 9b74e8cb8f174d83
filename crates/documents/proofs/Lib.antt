mod DifferenceLaws
mod DifferenceTexts
mod MergeLaws
mod Names
mod NewLine
mod PrettyLaws
mod TextLaws
mod TextsOf
