mod Spans
mod Cutting
mod Folding
mod Reading
