-- Laws of the definitions, and the claims of specs/.
pub mod ThirdLaws
pub mod SectionRule
pub mod DepthRule
