pub mod FieldRefusals
