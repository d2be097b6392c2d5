mod Codes
mod Counting
mod Found
mod Imaging
mod Places
