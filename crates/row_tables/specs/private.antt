pub mod TakenParts
