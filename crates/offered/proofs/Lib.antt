-- Laws of the call's answer.
pub mod LawsChecks
