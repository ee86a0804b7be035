pub mod CreditLaws
