pub mod FormLaws
pub mod OneLaws
pub mod RefusalLaws
pub mod RowLaws
pub mod SaidLaws
