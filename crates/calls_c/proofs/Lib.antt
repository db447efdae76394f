-- What is shown of the exports.
pub mod Exported
