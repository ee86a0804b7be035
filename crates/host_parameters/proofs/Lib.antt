pub mod ParameterLaws
pub mod SupplierLaws
