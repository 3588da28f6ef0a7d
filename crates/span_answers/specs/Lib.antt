pub mod Answers
pub mod NoteLines
