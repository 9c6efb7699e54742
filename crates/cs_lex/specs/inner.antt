-- How the reader finds the first piece of a text. The tokens of a text are defined without this, in Rows and
-- Lexed.
pub mod Front
