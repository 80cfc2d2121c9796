-- The command of the code, and what names functions, as those of the definitions.
pub use Rattle.command_words.specs.Reports.{source_view}
pub use Rattle.command_words.specs.Words.{command_view}
