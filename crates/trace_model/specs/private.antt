pub mod EventBegins
pub mod Gathering
pub mod OtlpTold
pub mod WrittenTokens
