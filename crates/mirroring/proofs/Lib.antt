mod Negations
mod Negating
