mod Further
mod Images
mod Spelled
