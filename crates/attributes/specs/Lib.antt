pub mod Attributes
pub mod AttributeWords
pub mod AttributeGrammar
pub mod AttributeReading
pub mod Comments
pub mod Forms
